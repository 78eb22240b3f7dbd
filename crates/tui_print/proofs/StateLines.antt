-- Lines of the states.
use Rattle.std.proofs.Common.{◌≡◌, ℕ, ◌+◌, ◌<◌, ◌≤◌, List, [], ◌∷◌, ◌++◌, length, map, get_or, drop, refl, sym, ap, ◌∙◌, add-one}
use Rattle.std.proofs.lemmas.List.{drop_all, get_or-map, length-map}
use Rattle.std.proofs.Math.Seq.{drop-cons}
use Rattle.tui_scene.specs.Item.{PlacedData}
use Rattle.tui_print.specs.Print.{state_line, state_lines}

-- one more widget
pub states_more : {A : Type 0} (f : A → PlacedData) (xs : List A) (ps : List PlacedData) (n : ℕ) (x d : A) → map f xs ≡ ps → n < length xs → x ≡ get_or xs n d →
    state_lines n (drop n ps) ≡ state_line n (f x).item ++ state_lines (n + 1) (drop (n + 1) ps)
unfolding state_lines
states_more f xs ps n x d all lt at =
    let within : n < length ps = rw (← all, length-map xs f) lt in
    let here : get_or ps n (f x) ≡ f x = rw (← all) (get_or-map f xs n d (f x) lt ∙ sym (ap f at)) in
    let whole : drop n ps ≡ f x ∷ drop (n + 1) ps = rw (add-one, drop-cons ps n (f x) within, here) refl in
    rw whole refl

-- after the last widget there is no line
pub states_end : {A : Type 0} (f : A → PlacedData) (xs : List A) (ps : List PlacedData) (n : ℕ) → map f xs ≡ ps → length xs ≤ n → state_lines n (drop n ps) ≡ []
unfolding state_lines
states_end f xs ps n all le = rw (drop_all n ps (rw (← all, length-map xs f) le)) refl
