-- Laws of drawing a table: a second drawing leaves the state of the first unchanged, and draws the same strokes.
use Rattle.std.specs.Prelude.{◌≡◌, ℕ, ◌-◌, ◌==◌, Bool, true, false, List, length, Option, None, Some}
use Rattle.std.proofs.Common.{refl, ap, sym, ◌∙◌}
use Rattle.std.proofs.lemmas.List.{length-map}
use Rattle.tui_cells.specs.declared.rect.Rect.{Rect}
use Rattle.tui_cells.specs.Rect.{is_empty}
use Rattle.tui_frames.specs.InBlock.{inner_of}
use Rattle.tui_frames.proofs.InBlock.{inner_empty}
use Rattle.tui_layout.proofs.StableWindow.{cut_place, window_stays}
use Rattle.tui_layout.specs.Found.{window_of}
use Rattle.tui_layout.specs.Window.{cut_selection}
use Rattle.tui_table.specs.Areas.{column_count, room_of}
use Rattle.tui_table.specs.Moves.{column_after, clamp_to, row_after, table_after, table_window}
use Rattle.tui_table.specs.Row.{RowData, heights_of, row_height}
use Rattle.tui_table.specs.Table.{TableData}
use Rattle.tui_table.specs.declared.state.TableState.{TableState}

-- the state after a drawing in an area that is not empty
abbrev pub shown : TableData → ℕ → TableState → TableState
shown t height s = record { offset = (table_window t height s).first; selected = row_after t s; selected_column = column_after t s }

-- this is the state after a drawing in an area that is not empty
pub after_shown : (t : TableData) (inner : Rect) (s : TableState) → is_empty inner ≡ false → table_after t inner s ≡ shown t inner.height s
unfolding table_after
after_shown t inner s h = rw h refl

-- over an empty area the state is unchanged
pub after_empty : (t : TableData) (inner : Rect) (s : TableState) → is_empty inner ≡ true → table_after t inner s ≡ s
unfolding table_after
after_empty t inner s h = rw h refl

cut_twice : (n : ℕ) (selected : Option ℕ) (none : Bool) → (n == 0) ≡ none → clamp_to n (clamp_to n selected) ≡ clamp_to n selected
cut_twice n None none e = refl
cut_twice n (Some s) true e = rw e refl
cut_twice n (Some s) false e = rw (e, e) (ap Some (cut_place s (n - 1)))

-- limiting a selected row again changes nothing
pub row_again : (t : TableData) (s : TableState) → clamp_to (length t.rows) (row_after t s) ≡ row_after t s
row_again t s = cut_twice (length t.rows) s.selected (length t.rows == 0) refl

-- nor does limiting a selected column again
pub column_again : (t : TableData) (s : TableState) → clamp_to (column_count t) (column_after t s) ≡ column_after t s
column_again t s = cut_twice (column_count t) s.selected_column (column_count t == 0) refl

-- the two ways to limit a selection are the same if there are rows
pub same_cut : (rows : List RowData) (selected : Option ℕ) → (length rows == 0) ≡ false →
    clamp_to (length rows) selected ≡ cut_selection (heights_of rows) selected
same_cut rows None e = refl
same_cut rows (Some s) e = rw (e, length-map rows row_height) refl

none_again : (rows : List RowData) (room offset again : ℕ) (selected other : Option ℕ) → (length rows == 0) ≡ true →
    window_of (heights_of rows) room offset selected 0 ≡ window_of (heights_of rows) room again other 0
unfolding window_of
none_again rows room offset again selected other e = rw (length-map rows row_height, e) refl

window_by : (t : TableData) (height : ℕ) (s : TableState) (none : Bool) → (length t.rows == 0) ≡ none →
    window_of (heights_of t.rows) (room_of t height) (table_window t height s).first (row_after t s) 0 ≡ table_window t height s
window_by t height s true e = none_again t.rows (room_of t height) (table_window t height s).first s.offset (row_after t s) s.selected e
window_by t height s false e =
    ap (λ c. window_of (heights_of t.rows) (room_of t height) (table_window t height s).first c 0) (same_cut t.rows s.selected e)
    ∙ window_stays (heights_of t.rows) (room_of t height) s.offset s.selected 0

-- the next drawing shows the same rows
pub window_again : (t : TableData) (height : ℕ) (s : TableState) → table_window t height (shown t height s) ≡ table_window t height s
window_again t height s = window_by t height s (length t.rows == 0) refl

shown_again : (t : TableData) (height : ℕ) (s : TableState) → shown t height (shown t height s) ≡ shown t height s
shown_again t height s = rw (window_by t height s (length t.rows == 0) refl, row_again t s, column_again t s) refl

settled : (t : TableData) (inner : Rect) (s : TableState) (empty : Bool) → is_empty inner ≡ empty →
    table_after t inner (table_after t inner s) ≡ table_after t inner s
settled t inner s true h = after_empty t inner (table_after t inner s) h
settled t inner s false h =
    ap (table_after t inner) (after_shown t inner s h)
    ∙ (after_shown t inner (shown t inner.height s) h ∙ (shown_again t inner.height s ∙ sym (after_shown t inner s h)))

-- a second drawing leaves the state of the first unchanged
pub state_is_idempotent : (t : TableData) (inner : Rect) (s : TableState) → table_after t inner (table_after t inner s) ≡ table_after t inner s
state_is_idempotent t inner s = settled t inner s (is_empty inner) refl

-- over an empty clip the state is unchanged
pub table_rests : (t : TableData) (s : TableState) (clip : Rect) → is_empty clip ≡ true → table_after t (inner_of t.block clip) s ≡ s
table_rests t s clip e = after_empty t (inner_of t.block clip) s (inner_empty t.block clip e)

-- a second drawing inside the block leaves the state of the first unchanged
pub table_is_idempotent : (t : TableData) (s : TableState) (clip : Rect) →
    table_after t (inner_of t.block clip) (table_after t (inner_of t.block clip) s) ≡ table_after t (inner_of t.block clip) s
table_is_idempotent t s clip = state_is_idempotent t (inner_of t.block clip) s
