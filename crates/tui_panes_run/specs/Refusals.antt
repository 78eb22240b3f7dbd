-- Why an input is rejected, and the line that says so.
use Rattle.std.specs.Prelude.{ℕ, List, Option, codes}
use Rattle.tui_program.specs.FieldLine.{refused_in_scene}
use Rattle.tui_schema.specs.Field as schema
use Rattle.tui_panes_run.specs.declared.field.PaneField.{PaneField}
use Rattle.tui_panes_run.specs.declared.field.PaneField.TheVariants as fields
use Rattle.tui_panes_run.specs.declared.refusal.PanesRefusal.{PanesRefusal}
use Rattle.tui_panes_run.specs.declared.refusal.PanesRefusal.TheVariants as refusals

-- the name of a field in the input
abbrev pub field_name : PaneField → List ℕ
field_name fields.Width = codes "width"
field_name fields.Height = codes "height"
field_name fields.Root = codes "root"
field_name fields.Changes = codes "changes"
field_name fields.Direction = codes "direction"
field_name fields.Spacing = codes "spacing"
field_name fields.Flex = codes "flex"
field_name fields.Parts = codes "parts"
field_name fields.Size = codes "size"
field_name fields.Item = codes "item"

-- a field of the input, or of the pane of a number
abbrev pub bad_pane : Option ℕ → PaneField → PanesRefusal
bad_pane pane field = refusals.BadPane pane field

-- the line that says why the input is rejected
abbrev pub refusal_line : PanesRefusal → List ℕ
refusal_line (refusals.BadPane pane field) = refused_in_scene (codes "pane") pane (field_name field)
refusal_line (refusals.BadField bad) = refused_in_scene (codes "item") bad.item (schema.field_name bad.field)
