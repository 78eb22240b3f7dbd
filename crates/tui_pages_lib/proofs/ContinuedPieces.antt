-- The pieces that continue a record, and their indices among all pieces.
use Rattle.std.proofs.Common.{Option, ◌≡◌, ℕ, zero, suc, ◌+◌, ◌-◌, ◌<◌, List, [], ◌∷◌, ◌++◌, length, get_or, take, drop, Some, refl, sym, ap, ◌∙◌, subst, arith, inl, inr}
use Rattle.std.specs.Prelude.{slice_get, slice_index_or}
use Rattle.std.proofs.lemmas.Bool.{cases_lt, cond-true, cond-false}
use Rattle.std.proofs.lemmas.List.{drop_more, length-append, take-append-drop, take_more}
use Rattle.std.proofs.lemmas.List.Elements.{filter-append, recursion_from_All}
use Rattle.std.proofs.lemmas.Option.{slice_get_within}
use Rattle.tui_layout.specs.declared.segment.Segment.{Segment}
use Rattle.tui_pages_lib.specs.Filling.{pages_of, pieces_from}
use Rattle.tui_pages_lib.specs.Heights.{heights_of}
use Rattle.tui_pages_lib.specs.Pages.{all_pieces}
use Rattle.tui_pages_lib.specs.Report.{ColumnData, IsReport}
use Rattle.tui_pages_lib.specs.Starts.{continued_pieces, pieces_before}
use Rattle.tui_pages_lib.specs.declared.piece.Piece.{Piece}
use Rattle.tui_pages_lib.proofs.Cutting.{Cuts, ge_test, lt_test, pieces_cut}
use Rattle.tui_pages_lib.proofs.DrawnPage.{read_page}
use Rattle.tui_pages_lib.proofs.Measured.{heights_some}
use Rattle.tui_pages_lib.proofs.UniquePages.{fill_pieces}

continued_head : (p : Piece) (ps : List Piece) → 0 < p.from → continued_pieces (p ∷ ps) ≡ p ∷ continued_pieces ps
continued_head p ps h = cond-true _ _ _ (lt_test 0 p.from h)

continued_tail : (p : Piece) (ps : List Piece) → p.from ≡ 0 → continued_pieces (p ∷ ps) ≡ continued_pieces ps
continued_tail p ps h = cond-false _ _ _ (ge_test 0 p.from (omega arith))

slice_get_seam : {A : Type 0} (xs : List A) (y : A) (ys : List A) → slice_get (xs ++ y ∷ ys) (length xs) ≡ Some y
slice_get_seam [] y ys = refl
slice_get_seam (x ∷ xs) y ys = slice_get_seam xs y ys

slice_get_after : {A : Type 0} (xs ys : List A) (i : ℕ) → slice_get (xs ++ ys) (length xs + i) ≡ slice_get ys i
slice_get_after [] ys i = let e : 0 + i ≡ i = omega arith in ap (slice_get ys) e
slice_get_after (x ∷ xs) ys i =
    let e : length (x ∷ xs) + i ≡ suc (length xs + i) = omega arith in
    ap (slice_get (x ∷ xs ++ ys)) e ∙ slice_get_after xs ys i

-- one piece after another

module _ (ps : List Piece) (at : ℕ) (d : Piece) (h : at < length ps) where
  abbrev p : Piece
  p = get_or ps at d

  abbrev before : List Piece
  before = continued_pieces (take at ps)

  -- a piece that continues a record is the next such piece after those before it
  pub next_continued : 0 < p.from → slice_get (continued_pieces ps) (length before) ≡ Some p
  next_continued on =
      let rest = drop (at + 1) ps in
      let parts : ps ≡ take at ps ++ p ∷ rest = sym (take-append-drop at ps) ∙ ap (λ qs. take at ps ++ qs) (drop_more ps at d h) in
      let all : continued_pieces ps ≡ before ++ p ∷ continued_pieces rest =
      ap continued_pieces parts ∙ (filter-append _ (take at ps) (p ∷ rest) ∙ ap (λ qs. before ++ qs) (continued_head p rest on)) in
      ap (λ qs. slice_get qs (length before)) all ∙ slice_get_seam before p (continued_pieces rest)

  step : continued_pieces (take (at + 1) ps) ≡ before ++ continued_pieces (p ∷ [])
  step = ap continued_pieces (take_more ps at d h) ∙ filter-append _ (take at ps) (p ∷ [])

  pub one_more : 0 < p.from → length (continued_pieces (take (at + 1) ps)) ≡ length before + 1
  one_more on = ap length (step ∙ ap (λ qs. before ++ qs) (continued_head p [] on)) ∙ length-append before (p ∷ [])

  pub no_more : p.from ≡ 0 → length (continued_pieces (take (at + 1) ps)) ≡ length before
  no_more off = omega (arith, ap length (step ∙ ap (λ qs. before ++ qs) (continued_tail p [] off)), length-append before [])

-- Among the pieces before one that continues a record, the first piece of each record up to its own does not continue
-- one. `first` is 1 if the first of these pieces starts its record, otherwise 0.
continued_at : (room place from first i : ℕ) (heights : List ℕ) (ps : List Piece) (p : Piece) → 0 < room → Cuts room place from heights ps →
    (0 < from → first ≡ 0) → (from ≡ 0 → first ≡ 1) → slice_get ps i ≡ Some p → 0 < p.from →
    (j : ℕ) × (j + first + p.place ≡ i + place) × (slice_get (continued_pieces ps) j ≡ Some p)
continued_at room place from first i [] ps p r c more none e on = absurd (omega (arith, slice_get_within ps i p e, ap length c))
continued_at room place from first i (height ∷ heights) [] p r c more none e on = absurd c
continued_at room place from first zero (height ∷ heights) (q ∷ ps) p r c more none e on =
    let same : q ≡ p = cc in
    let place_is : p.place ≡ place = ap (λ (t : Piece). t.place) (sym same) ∙ c.0 in
    let from_is : p.from ≡ from = ap (λ (t : Piece). t.from) (sym same) ∙ c.1 in
    let zero_is = more (omega arith) in
    let on_q : 0 < q.from = subst (λ (t : Piece). 0 < t.from) (sym same) on in
    (0, omega arith, ap (λ qs. slice_get qs 0) (continued_head q ps on_q) ∙ ap Some same)
continued_at room place from first (suc i) (height ∷ heights) (q ∷ ps) p r c more none e on =
    let at = c.1 in
    let later : (j : ℕ) × (j + p.place ≡ i + place) × (slice_get (continued_pieces ps) j ≡ Some p) =
    elim c.3 [
      | inl m ↦
          (let k = continued_at room place (from + room) 0 i (height ∷ heights) ps p r m.1 (λ z. refl) (λ z. absurd (omega arith)) e on in
          let n = k.1 in
          (k.0, omega arith, k.2))
      | inr m ↦
          (let k = continued_at room (place + 1) 0 1 i heights ps p r m.1 (λ z. absurd (omega arith)) (λ z. refl) e on in
          let n = k.1 in
          (k.0, omega arith, k.2))
    ] in
    let sum = later.1 in
    elim (cases_lt 0 from) [
      | inl some ↦
          (let is = more some in
          let here = ap (λ qs. slice_get qs (suc later.0)) (continued_head q ps (omega arith)) in
          (suc later.0, omega arith, here ∙ later.2))
      | inr le ↦
          (let is = none (omega arith) in
          let here = ap (λ qs. slice_get qs later.0) (continued_tail q ps (omega arith)) in
          (later.0, omega arith, here ∙ later.2))
    ]

-- the first piece of a page
abbrev first_piece : List (List Piece) → ℕ → Option Piece
first_piece pages at = slice_get (slice_index_or pages at []) 0

-- the same among all pieces
first_among : (pages : List (List Piece)) (at : ℕ) (p : Piece) → at < length pages → first_piece pages at ≡ Some p →
    slice_get (all_pieces pages) (pieces_before pages at) ≡ Some p
first_among [] at p h e = absurd (omega arith)
first_among ([] ∷ pages) zero p h e = absurd (let n = slice_get_within [] 0 p e in omega arith)
first_among ((q ∷ page) ∷ pages) zero p h e = e
first_among (page ∷ pages) (suc at) p h e =
    ap (slice_get (page ++ all_pieces pages)) (length-append page (all_pieces (take at pages)))
    ∙ (slice_get_after page (all_pieces pages) (pieces_before pages at) ∙ first_among pages at p (omega arith) e)

-- The first piece of a page of a report, if it continues a record. Its index among all pieces and the index of its
-- record determine which such piece it is.
pub continued_first : (places : List Segment) (width height : ℕ) (columns : List ColumnData) (records : List (List (List ℕ))) (pages : List (List Piece))
    (at : ℕ) (page : List Piece) (p : Piece) → IsReport places width height columns records pages → at < length pages →
    slice_get pages at ≡ Some page → slice_get page 0 ≡ Some p → 0 < p.from →
    (slice_get (all_pieces pages) (pieces_before pages at) ≡ Some p) × (slice_get (continued_pieces (all_pieces pages)) (pieces_before pages at - (p.place + 1)) ≡ Some p)
unfolding pages_of
continued_first places width height columns records pages at page p r h read e on =
    let heights = heights_of places records in
    let room = height - 3 in
    let high = r.high in
    let some : 0 < room = omega arith in
    let whole : all_pieces pages ≡ pieces_from room 0 heights = ap all_pieces r.are_pages ∙ fill_pieces room [] (pieces_from room 0 heights) in
    let cuts : Cuts room 0 0 heights (all_pieces pages) =
    subst (Cuts room 0 0 heights) (sym whole) (pieces_cut room 0 heights some (recursion_from_All (λ n. 0 < n) heights (heights_some places records))) in
    let first = first_among pages at p h (ap (λ ps. slice_get ps 0) (read_page pages at page h read) ∙ e) in
    let k = continued_at room 0 0 1 (pieces_before pages at) heights (all_pieces pages) p some cuts (λ z. absurd (omega arith)) (λ z. refl) first on in
    let sum = k.1 in
    let place : k.0 ≡ pieces_before pages at - (p.place + 1) = omega arith in
    (first, ap (slice_get (continued_pieces (all_pieces pages))) (sym place) ∙ k.2)
