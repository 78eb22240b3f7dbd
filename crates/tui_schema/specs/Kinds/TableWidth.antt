-- Column widths of a table: a percentage is at most 100.
use Rattle.std.specs.Prelude.{if◌then◌else◌, Option, Some, None}
use Rattle.serde_json.specs.Data.{Data}
use Rattle.tui_json.specs.Constraint.{constraint_of}
use Rattle.tui_json.specs.Members.{◌>>=◌}
use Rattle.tui_layout.specs.declared.constraint.Constraint.{Constraint}
use Rattle.tui_table.specs.Widths.{is_above_100}

unfoldable pub table_width_of : Data → Option Constraint
table_width_of d = do
  width ← constraint_of d
  if is_above_100 width then None else Some width
