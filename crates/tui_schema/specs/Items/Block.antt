-- The field of `block`.
use Rattle.std.specs.Prelude.{ℕ, Option, Result, Ok, unwrap_or}
use Rattle.serde_json.specs.Data.{Data}
use Rattle.tui_frames.specs.Block.{BlockData, block_of as new_block}
use Rattle.tui_schema.specs.declared.field.Field.TheVariants as fields
use Rattle.tui_schema.specs.Kinds.Block.{block_of}
use Rattle.tui_json.specs.Refusals.{◌>>=◌}
use Rattle.tui_schema.specs.Refusals.{optional}
use Rattle.tui_schema.specs.declared.bad_field.BadField.{BadField}

unfoldable pub block_in : Option ℕ → Data → Result BlockData BadField
block_in i d = do
  block ← optional block_of i fields.Block d
  Ok (unwrap_or block (new_block 0))
