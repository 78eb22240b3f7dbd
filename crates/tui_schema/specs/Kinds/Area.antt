-- Areas: `[x, y, width, height]`.
use Rattle.std.specs.Prelude.{Option, Some}
use Rattle.serde_json.specs.Data.{Data}
use Rattle.tui_cells.specs.declared.rect.Rect.{Rect}
use Rattle.tui_json.specs.Members.{◌>>=◌}
use Rattle.tui_schema.specs.Kinds.Four.{four_of}

unfoldable pub area_in : Data → Option Rect
area_in d = do
  sides ← four_of d
  Some (record { x = sides.0; y = sides.1; width = sides.2; height = sides.3 })
