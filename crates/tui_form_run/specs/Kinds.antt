-- Kinds of fields, by their names.
use Rattle.std.specs.Prelude.{ℕ, List, [], ◌∷◌, codes, refl}
use Rattle.tui_form_run.specs.declared.field_kind.FieldKind.{FieldKind}
use Rattle.tui_form_run.specs.declared.field_kind.FieldKind.TheVariants.{Text, Choice, Check}
use Rattle.tui_json.specs.Named.{Names}

abbrev pub kind_name : FieldKind → List ℕ
kind_name Text = codes "text"
kind_name Choice = codes "choice"
kind_name Check = codes "check"

-- the list of all kinds
abbrev pub kinds : Names FieldKind
kinds = record { name = kind_name; values = Text ∷ Choice ∷ Check ∷ []; found = elim [ Text ↦ refl | Choice ↦ refl | Check ↦ refl ] }
