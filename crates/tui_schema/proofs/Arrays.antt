-- Reading the values of an array that are joined into one, and those of an array of four.
use Rattle.std.proofs.Common.{◌≡◌, ℕ, ◌+◌, ◌<◌, ◌≤◌, List, [], ◌∷◌, length, get_or, drop, Option, Some, None, refl, option_and_then}
use Rattle.std.proofs.lemmas.List.{drop_all}
use Rattle.serde_json.specs.Data.{Data}
use Rattle.serde_json.specs.View.{view, items_view}
use Rattle.serde_json.specs.declared.value.Value.{Value}
use Rattle.tui_json.proofs.Arrays.{items_view-drop}
use Rattle.tui_schema.specs.Kinds.Four.{four_in}
use Rattle.tui_schema.specs.Kinds.Joined.{joined_of}

pub joined_more : {A : Type 0} (join : A → A → A) (kind : Data → Option A) (first : A) (i : ℕ) (vs : List Value) (v : Value) → i < length vs → v ≡ get_or vs i v
    → joined_of join kind first (items_view (drop i vs))
    ≡ option_and_then (λ x. joined_of join kind (join first x) (items_view (drop (i + 1) vs))) (kind (view v))
unfolding joined_of
joined_more join kind first i vs v lt e = rw (items_view-drop vs i v lt e) refl

pub joined_end : {A : Type 0} (join : A → A → A) (kind : Data → Option A) (first : A) (i : ℕ) (vs : List Value) → length vs ≤ i
    → joined_of join kind first (items_view (drop i vs)) ≡ Some first
unfolding joined_of
joined_end join kind first i vs le = rw (drop_all i vs le) refl

-- arrays of another length
pub four_other : (vs : List Value) → (length vs ≡ 4 → ⊥) → four_in (items_view vs) ≡ None
four_other [] h = refl
four_other (a ∷ []) h = refl
four_other (a ∷ b ∷ []) h = refl
four_other (a ∷ b ∷ c ∷ []) h = refl
four_other (a ∷ b ∷ c ∷ d ∷ []) h = absurd (h refl)
four_other (a ∷ b ∷ c ∷ d ∷ e ∷ vs) h = refl
