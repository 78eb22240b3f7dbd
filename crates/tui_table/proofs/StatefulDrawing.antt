-- The state that a drawing of a table leaves, and what a second drawing changes.
use Rattle.std.proofs.Common.{
  ◌≡◌,
  ℕ,
  zero,
  suc,
  ◌+◌,
  ◌-◌,
  ◌<◌,
  ◌≤◌,
  ◌==◌,
  min,
  Bool,
  true,
  false,
  if◌then◌else◌,
  List,
  [],
  ◌∷◌,
  ◌++◌,
  length,
  get_or,
  Option,
  Some,
  None,
  refl,
  ◌∙◌,
  ap,
  sym,
  subst,
  arith,
}
use Rattle.std.specs.Prelude.{slice_get}
use Rattle.std.proofs.lemmas.Bool.Decides.{nat_tests}
use Rattle.std.proofs.lemmas.List.{get_or-map, length-map}
use Rattle.tui_cells.specs.declared.rect.Rect.{Rect}
use Rattle.tui_cells.specs.Cell.{set_style}
use Rattle.tui_cells.specs.Layers.{Layer, stroke}
use Rattle.tui_cells.specs.Rect.{covers, is_empty}
use Rattle.tui_frames.specs.InBlock.{block_layers_if, inner_of}
use Rattle.tui_layout.proofs.Found.{window_is}
use Rattle.tui_layout.proofs.StableWindow.{first_of_cut, selected_is_shown}
use Rattle.tui_layout.proofs.Splitting.{columns_in_order}
use Rattle.tui_layout.proofs.Totals.{total_wider}
use Rattle.tui_layout.specs.Found.{window_of}
use Rattle.tui_layout.specs.Sums.{total}
use Rattle.tui_layout.specs.Window.{IsFirst, cut_selection}
use Rattle.tui_layout.specs.declared.window.Window.{Window}
use Rattle.tui_table.specs.Areas.{body_of, columns_in, gutter_of, height_if, room_of, widths_of}
use Rattle.tui_table.specs.Laws.{ColumnsAreInOrder, RedrawIsIdempotent, SelectedIsShown}
use Rattle.tui_table.specs.Moves.{TableMoves, column_after, row_after, table_after, table_window}
use Rattle.tui_table.specs.Row.{RowData, heights_of, row_height}
use Rattle.tui_table.specs.Idempotence.{after_empty, after_shown, column_again, row_again, same_cut, shown, state_is_idempotent, window_again}
use Rattle.tui_table.specs.Strokes.{body_layers, content_layers, edge_layers, row_area}
use Rattle.tui_table.specs.Table.{TableData}
use Rattle.tui_table.specs.declared.state.TableState.{TableState}
use Rattle.tui_table.proofs.RowLists.{total_more}

least : (t : TableData) (height : ℕ) (s : TableState) → IsFirst (heights_of t.rows) (room_of t height) s.offset (row_after t s) 0 (table_window t height s).first
least t height s =
    let xs = heights_of t.rows in
    let first = (table_window t height s).first in
    let begins = (window_is xs (room_of t height) s.offset s.selected 0).begins in
    let cut = first_of_cut xs (room_of t height) s.offset s.selected 0 first begins in
    record {
      empty = begins.empty;
      placed = λ h.
          let some : (length t.rows == 0) ≡ false = grind (arith, nat_tests, length-map t.rows row_height) in
          let P : Option ℕ → Type 0 = λ c. IsFirst xs (room_of t height) s.offset c 0 first in
          (subst P (sym (same_cut t.rows s.selected some)) cut).placed h;
    }

moves_least : (t : TableData) (inner : Rect) (s : TableState) → TableMoves t inner s (table_after t inner s)
moves_least t inner s = record {
  stays = λ h. after_empty t inner s h;
  selected = λ h. ap (λ (u : TableState). u.selected) (after_shown t inner s h);
  column = λ h. ap (λ (u : TableState). u.selected_column) (after_shown t inner s h);
  least = λ h.
      let P : TableState → Type 0 = λ u. IsFirst (heights_of t.rows) (room_of t inner.height) s.offset u.selected 0 u.offset in
      subst P (sym (after_shown t inner s h)) (least t inner.height s);
}

pub table_moves : (t : TableData) (inner : Rect) (s new : TableState) → new ≡ table_after t inner s → TableMoves t inner s new
table_moves t inner s new e = subst (λ (u : TableState). TableMoves t inner s u) (sym e) (moves_least t inner s)

-- an element that is found
found : (rows : List RowData) (i : ℕ) (r : RowData) → slice_get rows i ≡ Some r → (i < length rows) × (r ≡ get_or rows i r)
found [] i r e = cc
found (x ∷ rows) zero r e = (omega arith, cc)
found (x ∷ rows) (suc i) r e = let u = found rows i r e in (omega (arith, u.0), u.1)

place_shown : (xs : List ℕ) (room offset : ℕ) (selected : Option ℕ) (place : ℕ) → 0 < length xs → cut_selection xs selected ≡ Some place → get_or xs place 0 ≤ room →
    let w = window_of xs room offset selected 0 in (w.first ≤ place) × (place < w.end) × (w.end ≤ length xs) × (total xs w.first w.end ≤ room)
place_shown xs room offset None place some e fits = cc
place_shown xs room offset (Some s) place some e fits =
    let at : min s (length xs - 1) ≡ place = inside _ _ e in
    let small : get_or xs (min s (length xs - 1)) 0 ≤ room = subst (λ (k : ℕ). get_or xs k 0 ≤ room) (sym at) fits in
    let u = selected_is_shown xs room offset s 0 _ (window_is xs room offset (Some s) 0) some small in
    (omega (arith, u.0, at), omega (arith, u.1, at), u.2, u.3)
  where
    inside : {A : Type 0} (a b : A) → Some a ≡ Some b → a ≡ b
    inside a b e = cc

-- a row that ends in the room is not cut off
whole : (t : TableData) (inner : Rect) (first place last : ℕ) (r : RowData) → first ≤ place → place < last → place < length t.rows → r ≡ get_or t.rows place r →
    total (heights_of t.rows) first last ≤ room_of t inner.height → (row_area t (body_of t inner) first place r).height ≡ r.height
whole t inner first place last r le lt within here fits =
    let xs = heights_of t.rows in
    let sum = total_more t.rows first place (total (heights_of t.rows) first place) r le within here refl in
    let prefix_sum = total_wider xs first (place + 1) first last (omega arith) (omega arith) (omega arith) in
    omega (arith, sum, prefix_sum, fits)

pub row_is_shown : SelectedIsShown
row_is_shown t inner s place r e got fits =
    let u = found t.rows place r got in
    let some : 0 < length t.rows = omega (arith, u.0) in
    let none : (length t.rows == 0) ≡ false = grind (arith, nat_tests) in
    let high : get_or (heights_of t.rows) place 0 ≡ row_height r = get_or-map row_height t.rows place r 0 u.0 ∙ sym (ap row_height u.1) in
    let v = place_shown (heights_of t.rows) (room_of t inner.height) s.offset s.selected place (rw (length-map t.rows row_height) some)
    (sym (same_cut t.rows s.selected none) ∙ e) (omega (arith, high, fits)) in
    (v.0, v.1, rw (length-map t.rows row_height) at v.2, v.3, whole t inner _ place _ r v.0 v.1 u.0 u.1 v.3)

-- the strokes of the content, given what they take from the state
content_by : TableData → Rect → Option ℕ → Option ℕ → Window → List Layer
content_by t inner selected column w = if is_empty inner then [] else
    edge_layers t inner (gutter_of t inner.width selected) (columns_in t inner.width selected) 0 t.header
    ++ ((if length t.rows == 0 then [] else
    body_layers t (body_of t inner) (gutter_of t inner.width selected) (columns_in t inner.width selected) selected column w.first w.end)
    ++ edge_layers t inner (gutter_of t inner.width selected) (columns_in t inner.width selected) (height_if t.header + room_of t inner.height) t.footer)

content_is : (t : TableData) (inner : Rect) (s : TableState) → content_layers t inner s ≡ content_by t inner (row_after t s) (column_after t s) (table_window t inner.height s)
unfolding content_layers content_by
content_is t inner s = refl

shown_again : (t : TableData) (inner : Rect) (s : TableState) → content_layers t inner (shown t inner.height s) ≡ content_layers t inner s
shown_again t inner s =
    let w = table_window t inner.height s in
    content_is t inner (shown t inner.height s)
    ∙ (ap (λ (o : Option ℕ). content_by t inner o (column_after t (shown t inner.height s)) (table_window t inner.height (shown t inner.height s))) (row_again t s)
    ∙ (ap (λ (o : Option ℕ). content_by t inner (row_after t s) o (table_window t inner.height (shown t inner.height s))) (column_again t s)
    ∙ (ap (λ (k : Window). content_by t inner (row_after t s) (column_after t s) k) (window_again t inner.height s) ∙ sym (content_is t inner s))))

content_again : (t : TableData) (inner : Rect) (s : TableState) (empty : Bool) → is_empty inner ≡ empty → content_layers t inner (table_after t inner s) ≡ content_layers t inner s
content_again t inner s true e = ap (content_layers t inner) (after_empty t inner s e)
content_again t inner s false e = ap (content_layers t inner) (after_shown t inner s e) ∙ shown_again t inner s

pub redraw_is_idempotent : RedrawIsIdempotent
redraw_is_idempotent t clip s =
    let inner = inner_of t.block clip in (
      state_is_idempotent t inner s,
      ap (λ (ls : List Layer). stroke (covers clip) (set_style t.style) ++ (block_layers_if t.block clip ++ ls)) (content_again t inner s (is_empty inner) refl),
    )

pub in_order : ColumnsAreInOrder
unfolding columns_in
in_order t width selected = columns_in_order (width - gutter_of t width selected) t.spacing (widths_of t width) t.flex
