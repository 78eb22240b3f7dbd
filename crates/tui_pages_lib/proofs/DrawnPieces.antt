-- Pieces one below the other.
use Rattle.std.proofs.Common.{◌≡◌, ℕ, zero, suc, ◌+◌, ◌-◌, ◌<◌, ◌≤◌, min, false, List, [], ◌∷◌, length, map, drop, take, get_or}
use Rattle.std.proofs.Common.{sym, ap, ◌∙◌, subst, arith}
use Rattle.std.specs.Prelude.{slice_index_or}
use Rattle.std.proofs.lemmas.Bool.Decides.{nat_tests}
use Rattle.std.proofs.lemmas.List.{drop_more, get_or-map}
use Rattle.std.proofs.lemmas.List.Sums.{sum_by-cons}
use Rattle.tui_cells.specs.Buffer.{Screen}
use Rattle.tui_cells.specs.Layers.{KeptOutside, Painted}
use Rattle.tui_cells.specs.Rect.{covers, rows_from}
use Rattle.tui_cells.specs.declared.rect.Rect.{Rect}
use Rattle.tui_cells.proofs.Painting.{KeptOutside-then, KeptOutside-weaker, Painted-none, Painted-then}
use Rattle.tui_layout.specs.declared.segment.Segment.{Segment}
use Rattle.tui_pages_lib.specs.Pages.{lines_on, size_of}
use Rattle.tui_pages_lib.specs.Report.{cells_of}
use Rattle.tui_pages_lib.specs.Strokes.{cells_layers, pieces_layers}
use Rattle.tui_pages_lib.specs.declared.piece.Piece.{Piece}
use Rattle.tui_pages_lib.specs.declared.records.Record.{Record}
use Rattle.tui_pages_lib.proofs.Measured.{drop_past}

-- the lines of one more piece
pub lines_more : (pieces : List Piece) (i : ℕ) (d : Piece) → i < length pieces →
    lines_on (take (i + 1) pieces) ≡ lines_on (take i pieces) + size_of (get_or pieces i d)
lines_more [] i d h = absurd (omega arith)
lines_more (p ∷ pieces) zero d h = omega (arith, sum_by-cons size_of p [])
lines_more (p ∷ pieces) (suc i) d h =
    let n : suc (i + 1) ≡ suc i + 1 = omega arith in
    let before = sum_by-cons size_of p (take i pieces) in
    let after = sum_by-cons size_of p (take (i + 1) pieces) in
    let more = lines_more pieces i d (omega arith) in
    subst (λ k. lines_on (take k (p ∷ pieces)) ≡ lines_on (take (suc i) (p ∷ pieces)) + size_of (get_or pieces i d)) n (omega arith)

pub pieces_more : (buffer page rows : Rect) (places : List Segment) (records : List Record) (entry : Record) (row size from : ℕ)
    (pieces : List Piece) (i : ℕ) (d : Piece) (a b c : Screen) → i < length pieces → a.area ≡ buffer →
    (get_or pieces i d).place < length records → entry ≡ get_or records (get_or pieces i d).place entry →
    size ≡ size_of (get_or pieces i d) → from ≡ (get_or pieces i d).from → rows ≡ rows_from page row size →
    Painted (cells_layers from a.area rows places (cells_of entry)) a b →
    Painted (pieces_layers buffer page places (map cells_of records) (row + size) (drop (i + 1) pieces)) b c →
    Painted (pieces_layers buffer page places (map cells_of records) row (drop i pieces)) a c
unfolding pieces_layers
pieces_more buffer page rows places records entry row size from pieces i d a b c h same inside there sizes begins e painted rest =
    let p = get_or pieces i d in
    let ps : drop i pieces ≡ p ∷ drop (i + 1) pieces = drop_more pieces i d h in
    let read : cells_of entry ≡ slice_index_or (map cells_of records) p.place [] =
    ap cells_of there ∙ sym (get_or-map cells_of records p.place entry [] inside) in
    let at : rows ≡ rows_from page row (size_of p) = e ∙ ap (rows_from page row) sizes in
    let here : Painted (cells_layers p.from buffer (rows_from page row (size_of p)) places (slice_index_or (map cells_of records) p.place [])) a b =
    subst (λ cells. Painted (cells_layers p.from buffer (rows_from page row (size_of p)) places cells) a b) read
    (subst (λ (r : Rect). Painted (cells_layers p.from buffer r places (cells_of entry)) a b) at
    (subst (λ (r : Rect). Painted (cells_layers p.from r rows places (cells_of entry)) a b) same
    (subst (λ line. Painted (cells_layers line a.area rows places (cells_of entry)) a b) begins painted))) in
    let later : Painted (pieces_layers buffer page places (map cells_of records) (row + size_of p) (drop (i + 1) pieces)) b c =
    subst (λ n. Painted (pieces_layers buffer page places (map cells_of records) (row + n) (drop (i + 1) pieces)) b c) sizes rest in
    subst (λ qs. Painted (pieces_layers buffer page places (map cells_of records) row qs) a c) (sym ps) (Painted-then here later)

pub pieces_done : (buffer page : Rect) (places : List Segment) (records : List (List (List ℕ))) (row i : ℕ) (pieces : List Piece) (a : Screen) →
    length pieces ≤ i → Painted (pieces_layers buffer page places records row (drop i pieces)) a a
unfolding pieces_layers
pieces_done buffer page places records row i pieces a h =
    subst (λ qs. Painted (pieces_layers buffer page places records row qs) a a) (sym (drop_past i pieces h)) (Painted-none a)

-- a position outside some rows of a page is outside the rows among them
part_out : (page : Rect) (above size from count : ℕ) (x y : ℕ) → above ≤ from → min (from + count) page.height ≤ above + size →
    covers (rows_from page above size) x y ≡ false → covers (rows_from page from count) x y ≡ false
part_out page above size from count x y bounded high out = grind (arith, nat_tests)

pub part_kept : (page rows : Rect) (above size from count : ℕ) (a b : Screen) → above ≤ from → min (from + count) page.height ≤ above + size →
    rows ≡ rows_from page from count → KeptOutside (covers rows) a b → KeptOutside (covers (rows_from page above size)) a b
part_kept page rows above size from count a b bounded high e kept =
    KeptOutside-weaker (λ x y out. part_out page above size from count x y bounded high out) (subst (λ (R : Rect). KeptOutside (covers R) a b) e kept)

-- what changes nothing outside some rows below the first two changes nothing outside all of those rows
pub rows_kept : (page rows : Rect) (from count : ℕ) (a b c : Screen) → 2 ≤ from → KeptOutside (covers (rows_from page 2 (page.height - 2))) a b →
    rows ≡ rows_from page from count → KeptOutside (covers rows) b c → KeptOutside (covers (rows_from page 2 (page.height - 2))) a c
rows_kept page rows from count a b c bounded before e k =
    KeptOutside-then before (part_kept page rows 2 (page.height - 2) from count b c bounded (omega arith) e k)
