-- Fields, rejected fields and errors that `==` calls equal are the same.
use Rattle.std.proofs.Common.{◌≡◌, rules, true}
use Rattle.std.proofs.lemmas.Bool.{and_parts}
use denote.Enum.Bare.{same_true}
use denote.Enum.Declared.{declared}
use Rattle.tui_schema.specs.contracts.bad_field.BadFieldPartialEq as bad_field
use Rattle.tui_schema.specs.contracts.error.SceneErrorPartialEq as error
use Rattle.tui_schema.specs.contracts.field.Field.{enum}
use Rattle.tui_schema.specs.contracts.field.FieldPartialEq as field
use Rattle.tui_schema.specs.declared.bad_field.BadField.{BadField}
use Rattle.tui_schema.specs.declared.error.SceneError.{SceneError}
use Rattle.tui_schema.specs.declared.error.SceneError.TheVariants as errors
use Rattle.tui_schema.specs.declared.field.Field.{Field}

-- fields that `==` calls equal are the same: it compares the numbers of their variants
pub same_field : (a b : Field) → field.TheImpl.ghosts.eq a b ≡ true → a ≡ b
same_field a b e = same_true (declared enum) tt a b e

-- so are rejected fields
pub same_bad_field : (a b : BadField) → bad_field.TheImpl.ghosts.eq a b ≡ true → a ≡ b
same_bad_field a b e =
    let both = and_parts _ (field.TheImpl.ghosts.eq a.field b.field) e in
    Prim.search (rules, both.0, same_field a.field b.field both.1)

-- so are errors
pub same_error : (a b : SceneError) → error.TheImpl.ghosts.eq a b ≡ true → a ≡ b
same_error (errors.BadField i f) (errors.BadField j g) e =
    let both = and_parts _ (field.TheImpl.ghosts.eq f g) e in
    Prim.search (rules, both.0, same_field f g both.1)
same_error a b e = Prim.search rules
