-- Laws of drawing a list: a second drawing leaves the state of the first unchanged.
use Rattle.std.specs.Prelude.{◌≡◌, ℕ, ◌==◌, Bool, true, false, length, Option, if◌then◌else◌}
use Rattle.std.proofs.Common.{refl, ap, ◌∙◌}
use Rattle.tui_cells.specs.declared.rect.Rect.{Rect}
use Rattle.tui_cells.specs.Rect.{is_empty}
use Rattle.tui_layout.proofs.StableWindow.{cut_again, window_stays}
use Rattle.tui_layout.specs.Window.{cut_selection}
use Rattle.tui_layout.specs.declared.window.Window.{Window}
use Rattle.tui_lists.specs.List.{ListData, list_after, list_moved, list_window}
use Rattle.tui_lists.specs.ListItem.{heights_of}
use Rattle.tui_lists.specs.ListState.{default_state}
use Rattle.tui_lists.specs.declared.list.state.ListState.{ListState}

state_of : Window → Option ℕ → ListState
state_of w selected = record { offset = w.first; selected = selected }

moved_again : (l : ListData) (room : ℕ) (s : ListState) → list_moved l room (list_moved l room s) ≡ list_moved l room s
unfolding state_of
moved_again l room s =
    ap (λ w. state_of w (cut_selection (heights_of l.items) (cut_selection (heights_of l.items) s.selected)))
    (window_stays (heights_of l.items) room s.offset s.selected l.padding)
    ∙ ap (state_of (list_window l room s)) (cut_again (heights_of l.items) s.selected)

shown_again : (l : ListData) (room : ℕ) (s : ListState) (none : Bool) →
    (if none then default_state else list_moved l room (if none then default_state else list_moved l room s)) ≡ (if none then default_state else list_moved l room s)
shown_again l room s true = refl
shown_again l room s false = moved_again l room s

settled : (l : ListData) (inner : Rect) (s : ListState) (empty : Bool) →
    (if empty then (if empty then s else (if length l.items == 0 then default_state else list_moved l inner.height s))
    else (if length l.items == 0 then default_state else list_moved l inner.height
    (if empty then s else (if length l.items == 0 then default_state else list_moved l inner.height s))))
    ≡ (if empty then s else (if length l.items == 0 then default_state else list_moved l inner.height s))
settled l inner s true = refl
settled l inner s false = shown_again l inner.height s (length l.items == 0)

-- a second drawing leaves the state of the first unchanged
pub list_is_idempotent : (l : ListData) (s : ListState) (inner : Rect) → list_after l inner (list_after l inner s) ≡ list_after l inner s
unfolding list_after
list_is_idempotent l s inner = settled l inner s (is_empty inner)

-- over an empty area the state is unchanged
pub list_rests : (l : ListData) (s : ListState) (inner : Rect) → is_empty inner ≡ true → list_after l inner s ≡ s
unfolding list_after
list_rests l s inner e = rw e refl
