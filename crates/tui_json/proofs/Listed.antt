-- Testing whether each value of an array is an object, one after another.
use Rattle.std.proofs.Common.{◌≡◌, ℕ, ◌+◌, ◌<◌, ◌≤◌, Bool, true, false, ◌&&◌, List, length, get_or, drop, sym, ap, ◌∙◌}
use Rattle.std.proofs.lemmas.List.{drop_all}
use Rattle.serde_json.specs.View.{view, items_view}
use Rattle.serde_json.specs.declared.value.Value.{Value}
use Rattle.tui_json.proofs.Arrays.{items_view-drop}
use Rattle.tui_json.specs.Objects.{are_objects, is_object}

next : (vs : List Value) (i : ℕ) (v : Value) → i < length vs → v ≡ get_or vs i v →
    are_objects (items_view (drop i vs)) ≡ (is_object (view v) && are_objects (items_view (drop (i + 1) vs)))
unfolding are_objects
next vs i v lt e = ap are_objects (items_view-drop vs i v lt e)

pub objects_more : (vs : List Value) (i : ℕ) (v : Value) (all passes : Bool) → i < length vs → v ≡ get_or vs i v →
    all ≡ are_objects (items_view (drop i vs)) → passes ≡ is_object (view v) → passes ≡ true → all ≡ are_objects (items_view (drop (i + 1) vs))
objects_more vs i v all passes lt e so_far is some =
    so_far ∙ next vs i v lt e ∙ ap (λ (b : Bool). b && are_objects (items_view (drop (i + 1) vs))) (sym is ∙ some)

pub no_object : (vs : List Value) (i : ℕ) (v : Value) (all passes : Bool) → i < length vs → v ≡ get_or vs i v →
    all ≡ are_objects (items_view (drop i vs)) → passes ≡ is_object (view v) → passes ≡ false → false ≡ all
no_object vs i v all passes lt e so_far is none =
    sym (so_far ∙ next vs i v lt e ∙ ap (λ (b : Bool). b && are_objects (items_view (drop (i + 1) vs))) (sym is ∙ none))

pub all_objects : (vs : List Value) (i : ℕ) (all : Bool) → length vs ≤ i → all ≡ are_objects (items_view (drop i vs)) → true ≡ all
unfolding are_objects
all_objects vs i all le so_far = sym (so_far ∙ ap (λ (ws : List Value). are_objects (items_view ws)) (drop_all i vs le))
