-- The lines of states.
use Rattle.std.proofs.Common.{◌≡◌, ℕ, ◌+◌, ◌<◌, ◌≤◌, List, [], ◌∷◌, ◌++◌, length, get_or, drop, refl, add-one}
use Rattle.std.proofs.lemmas.List.{drop_all}
use Rattle.std.proofs.Math.Seq.{drop-cons}
use Rattle.tui_pager_run.specs.Printed.{key_line, key_lines}
use Rattle.tui_pager_lib.specs.declared.state.PagerState.{PagerState}

-- one more state
pub lines_more : (states : List PagerState) (n : ℕ) (d : PagerState) → n < length states →
    key_lines n (drop n states) ≡ key_line n (get_or states n d) ++ key_lines (n + 1) (drop (n + 1) states)
unfolding key_lines
lines_more states n d lt =
    let whole : drop n states ≡ get_or states n d ∷ drop (n + 1) states = rw (add-one, drop-cons states n d lt) refl in
    rw whole refl

-- after the last state there is no line
pub lines_end : (states : List PagerState) (n : ℕ) → length states ≤ n → key_lines n (drop n states) ≡ []
unfolding key_lines
lines_end states n le = rw (drop_all n states le) refl
