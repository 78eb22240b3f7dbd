-- What many widgets have: a block around them, and styles.
use Rattle.std.specs.Prelude.{ℕ, Option, Result, Ok, unwrap_or}
use Rattle.serde_json.specs.Data.{Data}
use Rattle.tui_cells.specs.Style.{no_style}
use Rattle.tui_cells.specs.declared.style.Style.{Style}
use Rattle.tui_frames.specs.Block.{BlockData}
use Rattle.tui_schema.specs.declared.field.Field.{Field}
use Rattle.tui_schema.specs.declared.field.Field.TheVariants as fields
use Rattle.tui_schema.specs.Kinds.Block.{block_of}
use Rattle.tui_schema.specs.Kinds.Style.{style_of}
use Rattle.tui_json.specs.Refusals.{◌>>=◌}
use Rattle.tui_schema.specs.Refusals.{optional}
use Rattle.tui_schema.specs.declared.bad_field.BadField.{BadField}

-- a style, empty if none is given
unfoldable pub style_in : Option ℕ → Field → Data → Result Style BadField
style_in i f d = do
  style ← optional style_of i f d
  Ok (unwrap_or style no_style)

-- a block, if one is given, and the style of the widget
unfoldable pub frame_in : Option ℕ → Data → Result (Option BlockData × Style) BadField
frame_in i d = do
  block ← optional block_of i fields.Block d
  style ← style_in i fields.Style d
  Ok (block, style)
