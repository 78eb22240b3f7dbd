-- Padding: `[left, right, top, bottom]`.
use Rattle.std.specs.Prelude.{Option, Some}
use Rattle.serde_json.specs.Data.{Data}
use Rattle.tui_frames.specs.Padding.{padding}
use Rattle.tui_frames.specs.declared.padding.Padding.{Padding}
use Rattle.tui_json.specs.Members.{◌>>=◌}
use Rattle.tui_schema.specs.Kinds.Four.{four_of}

unfoldable pub padding_of : Data → Option Padding
padding_of d = do
  sides ← four_of d
  Some (padding sides.0 sides.1 sides.2 sides.3)
