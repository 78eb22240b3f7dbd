-- The fields of `fill`.
use Rattle.std.specs.Prelude.{ℕ, Option, Result, Ok}
use Rattle.serde_json.specs.Data.{Data}
use Rattle.tui_frames.specs.Fill.{FillData}
use Rattle.tui_schema.specs.declared.field.Field.TheVariants as fields
use Rattle.tui_schema.specs.Items.Frame.{style_in}
use Rattle.tui_schema.specs.Kinds.Symbol.{symbol_of}
use Rattle.tui_json.specs.Refusals.{◌>>=◌}
use Rattle.tui_schema.specs.Refusals.{required}
use Rattle.tui_schema.specs.declared.bad_field.BadField.{BadField}

unfoldable pub fill_of : Option ℕ → Data → Result FillData BadField
fill_of i d = do
  symbol ← required symbol_of i fields.Symbol d
  style ← style_in i fields.Style d
  Ok (record { symbol = symbol; style = style })
