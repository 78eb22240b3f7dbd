-- What a drawing of a list paints, and the state that it leaves.
use Rattle.std.proofs.Common.{◌≡◌, ℕ, ◌-◌, ◌<◌, ◌==◌, max, true, false, drop, length, Option, Some, refl, ◌∙◌, ap, sym, subst, arith}
use Rattle.std.proofs.lemmas.Bool.Decides.{nat_tests}
use Rattle.std.proofs.lemmas.List.{length-map}
use Rattle.tui_cells.specs.declared.rect.Rect.{Rect}
use Rattle.tui_cells.specs.Buffer.{Screen}
use Rattle.tui_cells.specs.Rect.{is_empty}
use Rattle.tui_cells.specs.Layers.{Painted}
use Rattle.tui_cells.proofs.Painting.{Painted-none}
use Rattle.tui_layout.proofs.Found.{window_is}
use Rattle.tui_layout.proofs.StableWindow.{first_of_cut}
use Rattle.tui_layout.specs.Window.{IsFirst, cut_selection}
use Rattle.tui_layout.specs.declared.window.Window.{Window}
use Rattle.tui_lists.specs.List.{ListData, ListMoves, list_after, list_moved, list_window}
use Rattle.tui_lists.specs.ListItem.{heights_of, item_height}
use Rattle.tui_lists.specs.ListState.{default_state}
use Rattle.tui_lists.proofs.ListShown.{selected_is_shown}
use Rattle.tui_lists.specs.ListStrokes.{content_layers, items_layers}
use Rattle.tui_lists.specs.declared.list.state.ListState.{ListState}

-- if there are no items
pub content_none : (l : ListData) (inner : Rect) (s : ListState) (a : Screen) → length l.items ≡ 0 → Painted (content_layers l inner s) a a
unfolding content_layers
content_none l inner s a e =
    let none : (length l.items == 0) ≡ true = grind (arith, nat_tests) in
    rw none (Painted-none a)

-- the items of the window are painted, or the first one alone
pub content_some : (l : ListData) (inner : Rect) (s : ListState) (w : Window) (selected : Option ℕ) (count : ℕ) (a b : Screen) → 0 < length l.items →
    w ≡ list_window l inner.height s → selected ≡ cut_selection (heights_of l.items) s.selected → count ≡ max (w.end - w.first) 1 →
    Painted (items_layers l inner selected w.first 0 count (drop w.first l.items)) a b → Painted (content_layers l inner s) a b
unfolding content_layers
content_some l inner s w selected count a b some ws ss cs p =
    let none : (length l.items == 0) ≡ false = grind (arith, nat_tests) in
    let here : Painted (items_layers l inner selected w.first 0 (max (w.end - w.first) 1) (drop w.first l.items)) a b =
    subst (λ n. Painted (items_layers l inner selected w.first 0 n (drop w.first l.items)) a b) cs p in
    rw (none, ← ss) (subst (λ (v : Window). Painted (items_layers l inner selected v.first 0 (max (v.end - v.first) 1) (drop v.first l.items)) a b) ws here)

pub after_none : (l : ListData) (inner : Rect) (s : ListState) → is_empty inner ≡ false → length l.items ≡ 0 → list_after l inner s ≡ default_state
unfolding list_after
after_none l inner s h e =
    let none : (length l.items == 0) ≡ true = grind (arith, nat_tests) in
    rw (h, none) refl

after_some : (l : ListData) (inner : Rect) (s : ListState) → is_empty inner ≡ false → 0 < length l.items → list_after l inner s ≡ list_moved l inner.height s
unfolding list_after
after_some l inner s h some =
    let none : (length l.items == 0) ≡ false = grind (arith, nat_tests) in
    rw (h, none) refl

after_empty : (l : ListData) (inner : Rect) (s : ListState) → is_empty inner ≡ true → list_after l inner s ≡ s
unfolding list_after
after_empty l inner s h = rw h refl

-- the state that is left, by its fields
pub after_is : (l : ListData) (inner : Rect) (s : ListState) (w : Window) (selected : Option ℕ) → is_empty inner ≡ false → 0 < length l.items →
    w ≡ list_window l inner.height s → selected ≡ cut_selection (heights_of l.items) s.selected →
    record { offset = w.first; selected = selected } ≡ list_after l inner s
after_is l inner s w selected h some ws ss = rw (after_some l inner s h some, ← ss, ← ws) refl

-- the offset moves as little as possible
pub list_moves : (l : ListData) (inner : Rect) (s new : ListState) → new ≡ list_after l inner s → ListMoves l inner s new
list_moves l inner s new e = record {
  stays = λ h. e ∙ after_empty l inner s h;
  none = λ h z. e ∙ after_none l inner s h z;
  selected = λ h some. ap (λ (t : ListState). t.selected) (e ∙ after_some l inner s h some);
  least = λ h some.
      let heights = heights_of l.items in
      let P : ListState → Type 0 = λ t. IsFirst heights inner.height s.offset t.selected l.padding t.offset in
      let begins = (window_is heights inner.height s.offset s.selected l.padding).begins in
      subst P (sym (e ∙ after_some l inner s h some)) (first_of_cut heights inner.height s.offset s.selected l.padding (list_window l inner.height s).first begins);
  seen = λ h some place at fits.
      let moved = e ∙ after_some l inner s h some in
      let clamp_selection : cut_selection (heights_of l.items) s.selected ≡ Some place = sym (ap (λ (t : ListState). t.selected) moved) ∙ at in
      let u = selected_is_shown l inner.height place s some clamp_selection fits in
      let first : new.offset ≡ (list_window l inner.height s).first = ap (λ (t : ListState). t.offset) moved in
      record {
        last = (list_window l inner.height s).end;
        from_offset = omega (arith, u.0, first);
        before_last = u.1;
        within = omega (arith, u.2, length-map l.items item_height);
        fits = rw first u.3;
      };
}
