-- The rows, the header and the footer of a table, drawn together.
use Rattle.std.proofs.Common.{◌≡◌, ◌≤◌, ℕ, ◌+◌, min, false, List, length, Option, ◌∙◌, ap, subst}
use Rattle.tui_cells.specs.declared.rect.Rect.{Rect}
use Rattle.tui_cells.specs.Buffer.{Screen}
use Rattle.tui_cells.specs.Layers.{KeptOutside, Painted}
use Rattle.tui_cells.specs.Rect.{covers, is_empty}
use Rattle.tui_cells.proofs.Painting.{KeptOutside-weaker, Painted-then}
use Rattle.tui_cells.proofs.Regions.{rows_out}
use Rattle.tui_layout.specs.declared.segment.Segment.{Segment}
use Rattle.tui_layout.specs.declared.window.Window.{Window}
use Rattle.tui_table.specs.Areas.{area_in, columns_in, gutter_of, height_if, room_of}
use Rattle.tui_table.specs.Moves.{column_after, row_after, table_after, table_window}
use Rattle.tui_table.specs.Row.{RowData}
use Rattle.tui_table.specs.Strokes.{body_if, body_layers, content_layers, edge_layers, highlight_layers, rows_layers, selected_column, selected_row}
use Rattle.tui_table.specs.Table.{TableData}
use Rattle.tui_table.specs.declared.state.TableState.{TableState}
use Rattle.tui_table.proofs.RowLists.{rows_cut}

-- the rows and the highlights over them
pub body_painted : (t : TableData) (body : Rect) (gutter : ℕ) (columns : List Segment) (selected column : Option ℕ) (first last end : ℕ) (row place : Option Rect) (a b c : Screen) →
    first ≤ last → last ≤ length t.rows → end ≡ min (last + 1) (length t.rows) →
    row ≡ selected_row t body first selected → place ≡ selected_column body gutter columns column →
    Painted (rows_layers t body gutter columns selected first end) a b → Painted (highlight_layers t row place) b c →
    Painted (body_layers t body gutter columns selected column first last) a c
unfolding body_layers
body_painted t body gutter columns selected column first last end row place a b c le within e rs ps p q =
    Painted-then (rows_cut t body gutter columns selected first last end a b le within e p) (rw (← rs, ← ps) q)

pub content_painted : (t : TableData) (inner : Rect) (s : TableState) (selected : Option ℕ) (gutter below : ℕ) (columns : List Segment) (a b c d : Screen) →
    is_empty inner ≡ false → selected ≡ row_after t s → gutter ≡ gutter_of t inner.width selected → columns ≡ columns_in t inner.width selected →
    below ≡ height_if t.header + room_of t inner.height → Painted (edge_layers t inner gutter columns 0 t.header) a b →
    Painted (body_if t inner gutter columns s) b c → Painted (edge_layers t inner gutter columns below t.footer) c d → Painted (content_layers t inner s) a d
unfolding content_layers
content_painted t inner s selected gutter below columns a b c d shown ss gs cs bs p q r =
    let start : gutter ≡ gutter_of t inner.width (row_after t s) = gs ∙ ap (gutter_of t inner.width) ss in
    let parts : columns ≡ columns_in t inner.width (row_after t s) = cs ∙ ap (columns_in t inner.width) ss in
    rw (shown, ← start, ← parts, ← bs) (Painted-then p (Painted-then q r))

pub after_is : (t : TableData) (inner : Rect) (s : TableState) (w : Window) (selected column : Option ℕ) → is_empty inner ≡ false →
    w ≡ table_window t inner.height s → selected ≡ row_after t s → column ≡ column_after t s →
    record { offset = w.first; selected = selected; selected_column = column } ≡ table_after t inner s
unfolding table_after
after_is t inner s w selected column shown ws ss cs = rw (shown, ss, cs) (ap (λ (k : Window). record { offset = k.first; selected = row_after t s; selected_column = column_after t s }) ws)

-- what changes nothing outside a row changes nothing outside the body
pub row_kept : (body area : Rect) (from : ℕ) (r : RowData) (a b : Screen) → area ≡ area_in body from r → KeptOutside (covers area) a b → KeptOutside (covers body) a b
row_kept body area from r a b e k =
    KeptOutside-weaker (λ x y out. rows_out body (from + r.top_margin) r.height x y out) (subst (λ (s : Rect). KeptOutside (covers s) a b) e k)
