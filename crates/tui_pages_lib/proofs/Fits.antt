-- The pieces of a page belong to records, and the page has room for them.
use Rattle.std.proofs.Common.{◌≡◌, ℕ, zero, suc, ◌+◌, ◌-◌, ◌<◌, ◌≤◌, min, List, [], ◌∷◌, length, drop, refl, sym, ap, ◌∙◌, subst, arith, inl, inr}
use Rattle.std.specs.Prelude.{All, Some, slice_get, slice_index}
use Rattle.std.specs.List.{AllByRecursion}
use Rattle.std.proofs.lemmas.List.{length-drop, length-map}
use Rattle.std.proofs.lemmas.List.Elements.{All-from_recursion, recursion_from_All}
use Rattle.tui_layout.specs.declared.segment.Segment.{Segment}
use Rattle.tui_pages_lib.specs.Heights.{heights_of, record_height}
use Rattle.tui_pages_lib.specs.Pages.{ArePages, IsPage, all_pieces, lines_on}
use Rattle.tui_pages_lib.specs.Report.{ColumnData, IsReport}
use Rattle.tui_pages_lib.specs.Strokes.{IsDrawable}
use Rattle.tui_pages_lib.specs.declared.piece.Piece.{Piece}
use Rattle.tui_pages_lib.proofs.Cutting.{Begun, Cuts, Heights, begun_first, drop_next, height_at}
use Rattle.tui_pages_lib.proofs.Measured.{IsLow, heights_some}
use Rattle.tui_pages_lib.proofs.UniquePages.{all_back, all_front, all_weaker, known_of, pages_found}

-- a piece of a record, with no line past the end of the record
record IsInside (heights : List ℕ) (p : Piece) : Type 0 where
  place : p.place < length heights
  some : p.from < p.to
  bounded : p.to ≤ slice_index heights p.place

inside_is : (all heights : List ℕ) (room place from height : ℕ) (p : Piece) → 0 < room → drop place all ≡ height ∷ heights → p.place ≡ place →
    p.from ≡ from → from < height → p.to ≡ min height (from + room) → IsInside all p
inside_is all heights room place from height p r at there begins more to =
    let here : slice_index all p.place ≡ height = ap (slice_index all) there ∙ height_at place all height heights at in
    record {
      place = omega (arith, there, ap length at, length-drop place all);
      some = omega arith;
      bounded = omega arith;
    }

cuts_inside : (all : List ℕ) (room place from : ℕ) (heights : List ℕ) (ps : List Piece) → 0 < room → drop place all ≡ heights → Heights heights →
    Begun from heights → Cuts room place from heights ps → AllByRecursion (IsInside all) ps
cuts_inside all room place from [] ps r at high b c = subst (AllByRecursion (IsInside all)) (sym c) tt
cuts_inside all room place from (height ∷ heights) [] r at high b c = absurd c
cuts_inside all room place from (height ∷ heights) (p ∷ ps) r at high b c =
    let first = inside_is all heights room place from height p r at c.0 c.1 b c.2 in
    elim c.3 [
      | inl more ↦ (first, cuts_inside all room place (from + room) (height ∷ heights) ps r at high more.0 more.1)
      | inr done ↦
          (first, cuts_inside all room (place + 1) 0 heights ps r (drop_next place all height heights at) high.1 (begun_first heights high.1) done.1)
    ]

-- what holds of the pieces of all pages holds of the pieces of each page
on_page : (P : Piece → Type 0) (pages : List (List Piece)) (at : ℕ) (page : List Piece) → at < length pages → slice_get pages at ≡ Some page →
    AllByRecursion P (all_pieces pages) → AllByRecursion P page
on_page P [] at page h e a = absurd (omega arith)
on_page P (first ∷ pages) zero page h e a =
    let same : first ≡ page = cc in
    subst (AllByRecursion P) same (all_front P first (all_pieces pages) a)
on_page P (first ∷ pages) (suc at) page h e a = on_page P pages at page (omega arith) e (all_back P first (all_pieces pages) a)

page_at : (P : List Piece → Type 0) (pages : List (List Piece)) (at : ℕ) (page : List Piece) → at < length pages → slice_get pages at ≡ Some page →
    AllByRecursion P pages → P page
page_at P [] at page h e a = absurd (omega arith)
page_at P (first ∷ pages) zero page h e a = let same : first ≡ page = cc in subst P same a.0
page_at P (first ∷ pages) (suc at) page h e a = page_at P pages at page (omega arith) e a.1

all_inside : (heights : List ℕ) (room : ℕ) (pages : List (List Piece)) → 0 < room → Heights heights → ArePages heights room pages →
    AllByRecursion (IsInside heights) (all_pieces pages)
all_inside [] room pages r high are = subst (λ ps. AllByRecursion (IsInside []) (all_pieces ps)) (sym (are.none refl)) tt
all_inside (height ∷ heights) room pages r high are =
    let known = known_of (height ∷ heights) room pages high (omega arith) are in
    cuts_inside (height ∷ heights) room 0 0 (height ∷ heights) (all_pieces pages) r refl high (begun_first (height ∷ heights) high) known.cuts

drawable : (heights : List ℕ) (p : Piece) → All IsLow heights → IsInside heights p → IsDrawable (length heights) p
drawable heights p bounded i =
    let most = bounded p.place 0 i.place in
    let within = i.bounded in
    record { place = i.place; some = i.some; bounded = omega arith }

-- a page of a report can be drawn
pub record Fits (height count : ℕ) (page : List Piece) : Type 0 where
  pub drawable : All (IsDrawable count) page
  pub fit : lines_on page + 3 ≤ height

pub page_fits : (places : List Segment) (width height : ℕ) (columns : List ColumnData) (records : List (List (List ℕ))) (pages : List (List Piece))
    (at : ℕ) (page : List Piece) → IsReport places width height columns records pages → at < length pages → slice_get pages at ≡ Some page →
    Fits height (length records) page
page_fits places width height columns records pages at page r h e =
    let heights = heights_of places records in
    let tall = r.high in
    let some = heights_some places records in
    let are = pages_found heights (height - 3) pages (omega arith) some r.are_pages in
    let inside = all_inside heights (height - 3) pages (omega arith) (recursion_from_All (λ n. 0 < n) heights some) are in
    let here = on_page (IsInside heights) pages at page h e inside in
    let within = (page_at (IsPage heights (height - 3)) pages at page h e (recursion_from_All (IsPage heights (height - 3)) pages are.each_page)).within in
    record {
      drawable = subst (λ n. All (IsDrawable n) page) (length-map records (record_height places))
          (All-from_recursion (IsDrawable (length heights)) page
          (all_weaker (IsInside heights) (IsDrawable (length heights)) page (λ p i. drawable heights p r.bounded i) here));
      fit = omega arith;
    }
