-- A page is drawn part by part.
use Rattle.std.proofs.Common.{◌≡◌, ℕ, zero, suc, ◌-◌, ◌<◌, List, [], ◌∷◌, length, Result, Ok, Err, sym, ap, ◌∙◌, subst, arith}
use Rattle.std.specs.Prelude.{OnOk, Some, slice_get, slice_index_or}
use Rattle.tui_cells.specs.Buffer.{Screen}
use Rattle.tui_cells.specs.Layers.{Painted}
use Rattle.tui_cells.specs.Rect.{rows_from}
use Rattle.tui_cells.specs.declared.rect.Rect.{Rect}
use Rattle.tui_cells.proofs.Painting.{Painted-then}
use Rattle.tui_layout.specs.declared.segment.Segment.{Segment}
use Rattle.tui_pages_lib.specs.Report.{ColumnData, ReportData, places_of}
use Rattle.tui_pages_lib.specs.Strokes.{body_layers, paragraph_in, head_layers, names_layers, number_of, page_area, page_layers, pieces_layers, unwrapped, right_layers}
use Rattle.tui_pages_lib.specs.declared.piece.Piece.{Piece}

-- a page that is read
pub read_page : (pages : List (List Piece)) (at : ℕ) (page : List Piece) → at < length pages → slice_get pages at ≡ Some page →
    slice_index_or pages at [] ≡ page
read_page [] at page h e = absurd (omega arith)
read_page (first ∷ pages) zero page h e = cc
read_page (first ∷ pages) (suc at) page h e = read_page pages at page (omega arith) e

pub head_drawn : {T E : Type 0} (result : Result T E) (r : ReportData) (places : List Segment) (columns : List ColumnData)
    (page first second : Rect) (a b c : Screen) → page ≡ page_area r → places ≡ places_of r.width r.columns → columns ≡ r.columns →
    first ≡ rows_from page 0 1 → second ≡ rows_from page 1 1 → Painted (paragraph_in a.area first (unwrapped r.title)) a b →
    OnOk result (Painted (names_layers b.area second places columns) b c) → OnOk result (Painted (head_layers r a.area) a c)
unfolding head_layers
head_drawn (Err x) r places columns page first second a b c pg pl cs f s title names = tt
head_drawn (Ok x) r places columns page first second a b c pg pl cs f s title names =
    let there = places_of r.width r.columns in
    let p : Painted (paragraph_in a.area (rows_from (page_area r) 0 1) (unwrapped r.title)) a b =
    subst (λ (R : Rect). Painted (paragraph_in a.area R (unwrapped r.title)) a b) (f ∙ ap (λ g. rows_from g 0 1) pg) title in
    let q : Painted (names_layers a.area (rows_from (page_area r) 1 1) there r.columns) b c =
    subst (λ (R : Rect). Painted (names_layers a.area R there r.columns) b c) (s ∙ ap (λ g. rows_from g 1 1) pg)
    (subst (λ ks. Painted (names_layers a.area second ks r.columns) b c) pl
    (subst (λ ks. Painted (names_layers a.area second places ks) b c) cs
    (subst (λ (R : Rect). Painted (names_layers R second places columns) b c) title.area names))) in
    Painted-then p q

pub body_drawn : {T E : Type 0} (result : Result T E) (r : ReportData) (places : List Segment) (records : List (List (List ℕ))) (at count : ℕ)
    (page last : Rect) (pieces : List Piece) (a b c : Screen) → page ≡ page_area r → places ≡ places_of r.width r.columns → records ≡ r.records →
    last ≡ rows_from page (r.height - 1) 1 → at < length r.pages → slice_get r.pages at ≡ Some pieces → count ≡ length r.pages →
    Painted (pieces_layers a.area page places records 2 pieces) a b →
    OnOk result (Painted (right_layers b.area last (number_of at count)) b c) → OnOk result (Painted (body_layers r at a.area) a c)
unfolding body_layers
body_drawn (Err x) r places records at count page last pieces a b c pg pl rs l h get n ps number = tt
body_drawn (Ok x) r places records at count page last pieces a b c pg pl rs l h get n ps number =
    let there = places_of r.width r.columns in
    let t : Painted (pieces_layers a.area (page_area r) there r.records 2 (slice_index_or r.pages at [])) a b =
    subst (λ qs. Painted (pieces_layers a.area (page_area r) there r.records 2 qs) a b) (sym (read_page r.pages at pieces h get))
    (subst (λ (R : Rect). Painted (pieces_layers a.area R there r.records 2 pieces) a b) pg
    (subst (λ ks. Painted (pieces_layers a.area page ks r.records 2 pieces) a b) pl
    (subst (λ ks. Painted (pieces_layers a.area page places ks 2 pieces) a b) rs ps))) in
    let u : Painted (right_layers a.area (rows_from (page_area r) (r.height - 1) 1) (number_of at (length r.pages))) b c =
    subst (λ k. Painted (right_layers a.area (rows_from (page_area r) (r.height - 1) 1) (number_of at k)) b c) n
    (subst (λ (R : Rect). Painted (right_layers a.area R (number_of at count)) b c) (l ∙ ap (λ g. rows_from g (r.height - 1) 1) pg)
    (subst (λ (R : Rect). Painted (right_layers R last (number_of at count)) b c) ps.area number)) in
    Painted-then t u

pub page_drawn : {T E : Type 0} (result : Result T E) (r : ReportData) (at : ℕ) (a b c : Screen) → Painted (head_layers r a.area) a b →
    OnOk result (Painted (body_layers r at b.area) b c) → OnOk result (Painted (page_layers r at a.area) a c)
unfolding page_layers
page_drawn (Err x) r at a b c head body = tt
page_drawn (Ok x) r at a b c head body =
    Painted-then head (subst (λ (R : Rect). Painted (body_layers r at R) b c) head.area body)
