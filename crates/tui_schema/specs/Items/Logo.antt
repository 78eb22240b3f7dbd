-- The field of `logo`.
use Rattle.std.specs.Prelude.{ℕ, Option, Result, Ok, unwrap_or}
use Rattle.serde_json.specs.Data.{Data}
use Rattle.tui_para.specs.declared.size.Size.{Size}
use Rattle.tui_para.specs.declared.size.Size.TheVariants.{Tiny}
use Rattle.tui_schema.specs.declared.field.Field.TheVariants as fields
use Rattle.tui_json.specs.Named.{named_of}
use Rattle.tui_schema.specs.Kinds.Names.{sizes}
use Rattle.tui_json.specs.Refusals.{◌>>=◌}
use Rattle.tui_schema.specs.Refusals.{optional}
use Rattle.tui_schema.specs.declared.bad_field.BadField.{BadField}

unfoldable pub logo_of : Option ℕ → Data → Result Size BadField
logo_of i d = do
  size ← optional (named_of sizes) i fields.Size d
  Ok (unwrap_or size Tiny)
