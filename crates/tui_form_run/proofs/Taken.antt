-- Whether a name is taken, comparing one value after another.
use Rattle.std.proofs.Common.{◌≡◌, ℕ, zero, suc, ◌+◌, ◌<◌, ◌≤◌, Bool, true, false, ◌||◌, List, [], ◌∷◌, length, get_or, drop, take, min, refl, sym, ap, ◌∙◌, arith, inl, inr}
use Rattle.std.proofs.lemmas.Bool.{cases_lt}
use Rattle.std.proofs.lemmas.List.{drop_all, take_all}
use Rattle.serde_json.specs.Data.{item}
use Rattle.serde_json.specs.View.{view, items_view}
use Rattle.serde_json.specs.declared.value.Value.{Value}
use Rattle.tui_form_run.specs.Input.{first_items, has_name, is_taken}
use Rattle.tui_json.proofs.Arrays.{items_view-drop}

next : (name : List ℕ) (vs : List Value) (i : ℕ) (v : Value) → i < length vs → v ≡ get_or vs i v →
    is_taken name (items_view (drop i vs)) ≡ (has_name name (view v) || is_taken name (items_view (drop (i + 1) vs)))
unfolding is_taken
next name vs i v lt e = ap (is_taken name) (items_view-drop vs i v lt e)

pub none_yet : (name : List ℕ) (vs : List Value) (i : ℕ) (v : Value) (all has : Bool) → i < length vs → v ≡ get_or vs i v →
    all ≡ is_taken name (items_view (drop i vs)) → has ≡ has_name name (view v) → has ≡ false → all ≡ is_taken name (items_view (drop (i + 1) vs))
none_yet name vs i v all has lt e so_far is none =
    so_far ∙ next name vs i v lt e ∙ ap (λ (b : Bool). b || is_taken name (items_view (drop (i + 1) vs))) (sym is ∙ none)

pub one_has : (name : List ℕ) (vs : List Value) (i : ℕ) (v : Value) (all has : Bool) → i < length vs → v ≡ get_or vs i v →
    all ≡ is_taken name (items_view (drop i vs)) → has ≡ has_name name (view v) → has ≡ true → true ≡ all
one_has name vs i v all has lt e so_far is some =
    sym (so_far ∙ next name vs i v lt e ∙ ap (λ (b : Bool). b || is_taken name (items_view (drop (i + 1) vs))) (sym is ∙ some))

pub none_has : (name : List ℕ) (vs : List Value) (i : ℕ) (all : Bool) → length vs ≤ i → all ≡ is_taken name (items_view (drop i vs)) → false ≡ all
unfolding is_taken
none_has name vs i all le so_far = sym (so_far ∙ ap (λ (ws : List Value). is_taken name (items_view ws)) (drop_all i vs le))

-- the values before an index
pub firsts : (n : ℕ) (vs : List Value) → items_view (take n vs) ≡ first_items n (items_view vs)
firsts zero vs = refl
firsts (suc n) [] = refl
firsts (suc n) (v ∷ vs) = ap (item (view v)) (firsts n vs)

pub firsts_within : (n count : ℕ) (vs : List Value) → count ≡ min n (length vs) → items_view (take count vs) ≡ first_items n (items_view vs)
firsts_within n count vs is = elim (cases_lt n (length vs)) [
  | inl below ↦ let same : count ≡ n = omega arith in ap (λ (k : ℕ). items_view (take k vs)) same ∙ firsts n vs
  | inr above ↦
      let all : length vs ≤ count = omega arith in
      ap items_view (take_all count vs all ∙ sym (take_all n vs above)) ∙ firsts n vs
]
