-- Column widths that are accepted or rejected.
use Rattle.std.proofs.Common.{◌≡◌, ℕ, List, map, Option, Some, None, Bool, true, false, Result, Ok, Err, refl, sym, ap}
use Rattle.std.proofs.lemmas.Bool.{false≢true}
use Rattle.std.proofs.lemmas.List.{map-id}
use Rattle.tui_layout.specs.declared.constraint.Constraint.{Constraint}
use Rattle.tui_table.specs.Table.{TableData}
use Rattle.tui_schema.specs.Items.TableFields.{unless_above}

abbrev is_taken : {A E : Type 0} → Result A E → Bool
is_taken (Ok x) = true
is_taken (Err e) = false

ok_or_err : {A E : Type 0} (x : A) (y : E) → Ok x ≡ Err y → ⊥
ok_or_err x y e = false≢true (sym (ap is_taken e))

-- if the widths are accepted, none is above 100 percent
pub all_taken : {A E : Type 0} (i place : Option ℕ) (t : TableData) (x : A) (e : ℕ → E) → ((index : ℕ) → place ≡ Some index → Ok x ≡ Err (e index))
    → unless_above i place t ≡ Ok t
all_taken i None t x e rejected = refl
all_taken i (Some index) t x e rejected = absurd (ok_or_err x (e index) (rejected index refl))

-- widths are read as they are
pub same_widths : (widths : List Constraint) → map (λ (w : Constraint). w) widths ≡ widths
same_widths widths = map-id widths
