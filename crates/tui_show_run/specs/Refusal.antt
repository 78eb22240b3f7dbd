-- The line that rejects a field.
use Rattle.std.specs.Prelude.{ℕ, List, Option, codes}
use Rattle.tui_program.specs.FieldLine.{refused_in_scene}
use Rattle.tui_schema.specs.declared.field.Field.{Field}
use Rattle.tui_schema.specs.Field.{field_name}

-- the line for a field of the scene, or of the item with a number
abbrev pub field_line : Option ℕ → Field → List ℕ
field_line item f = refused_in_scene (codes "item") item (field_name f)
