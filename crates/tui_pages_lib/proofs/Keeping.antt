-- Pages stored as one list of pieces and the indices of their ends.
use Rattle.std.proofs.Common.{◌≡◌, ℕ, zero, suc, ◌+◌, ◌-◌, ◌<◌, ◌≤◌, min, List, [], ◌∷◌, ◌++◌, length, get_or, take, drop, refl, sym, ap, ◌∙◌, subst, arith, inl, inr}
use Rattle.std.specs.Prelude.{slice_get, slice_range, Some, Result, Ok, Err, IfOk}
use Rattle.std.proofs.lemmas.List.{append_assoc, length-append, length-take, take_rest, drop-append-le, take-append-le, length-drop, drop_more, get_or_default}
use Rattle.std.proofs.lemmas.Bool.{cases_lt, cond-true, cond-false}
use Rattle.tui_pages_lib.specs.declared.piece.Piece.{Piece}
use Rattle.std.proofs.lemmas.List.Folds.{drop_split}
use Rattle.tui_pages_lib.specs.Pages.{all_pieces, size_of, lines_on}
use Rattle.tui_pages_lib.specs.Starts.{pieces_before}
use Rattle.tui_pages_lib.specs.Filling.{cut, pieces_from, fill, Draft, IsDraft, with_piece, pages_by, pages_by_ends, AreEndsUpTo}
use Rattle.tui_pages_lib.proofs.Cutting.{cut_next, cut_done}
use Rattle.tui_pages_lib.proofs.FillSteps.{fill_fits, fill_wide, le_test, gt_test}

end_after : (start last : ℕ) (ends : List ℕ) → AreEndsUpTo start ends last → start ≤ last
end_after start last [] e = omega (arith, e)
end_after start last (stop ∷ ends) e = let le = e.0 in let more = end_after stop last ends e.1 in omega arith

pub end_more : (start last stop : ℕ) (ends : List ℕ) → AreEndsUpTo start ends last → last ≤ stop → AreEndsUpTo start (ends ++ stop ∷ []) stop
end_more start last stop [] e h = (omega (arith, e), refl)
end_more start last stop (x ∷ ends) e h = (e.0, end_more x last stop ends e.1 h)

drop_none : {A : Type 0} (xs : List A) → drop (length xs) xs ≡ []
drop_none [] = refl
drop_none (x ∷ xs) = drop_none xs

drop_past : {A : Type 0} (n : ℕ) (xs : List A) → length xs ≤ n → drop n xs ≡ []
drop_past zero [] h = refl
drop_past zero (x ∷ xs) h = absurd (omega arith)
drop_past (suc n) [] h = refl
drop_past (suc n) (x ∷ xs) h = drop_past n xs (omega arith)

-- one more page ends
pub parts_end : (start last : ℕ) (ends : List ℕ) (pieces : List Piece) → AreEndsUpTo start ends last
    → pages_by_ends start (ends ++ length pieces ∷ []) pieces ≡ pages_by_ends start ends pieces ++ drop last pieces ∷ []
parts_end start last [] pieces e =
    ap (λ page. page ∷ []) (take_rest pieces start ∙ ap (λ i. drop i pieces) e)
parts_end start last (stop ∷ ends) pieces e = ap (λ pages. slice_range pieces start stop ∷ pages) (parts_end stop last ends pieces e.1)

-- a later piece is on none of the complete pages
part_kept : (pieces : List Piece) (p : Piece) (start stop : ℕ) → start ≤ stop → stop ≤ length pieces
    → slice_range (pieces ++ p ∷ []) start stop ≡ slice_range pieces start stop
part_kept pieces p start stop le within =
    ap (take (stop - start)) (drop-append-le start pieces (p ∷ []) (omega arith))
    ∙ take-append-le (stop - start) (drop start pieces) (p ∷ []) (omega (arith, length-drop start pieces))

pub parts_piece : (start last : ℕ) (ends : List ℕ) (pieces : List Piece) (p : Piece) → AreEndsUpTo start ends last
    → last ≤ length pieces
    → pages_by_ends start ends (pieces ++ p ∷ []) ≡ pages_by_ends start ends pieces
parts_piece start last [] pieces p e h = refl
parts_piece start last (stop ∷ ends) pieces p e h =
    let le = e.0 in
    let later = end_after stop last ends e.1 in
    let first = part_kept pieces p start stop le (omega arith) in
    let rest = parts_piece stop last ends pieces p e.1 h in
    ap (λ page. page ∷ pages_by_ends stop ends (pieces ++ p ∷ [])) first ∙ ap (λ pages. slice_range pieces start stop ∷ pages) rest

pub same_draft : (a b : List (List Piece)) (x y : List Piece) → a ≡ b → x ≡ y
    → (let r : Draft = record { ended = a; current = x } in r) ≡ record { ended = b; current = y }
same_draft a b x y e f = cc

abbrev pub drafted : (pieces : List Piece) (ends : List ℕ) (start : ℕ) → Draft
drafted pieces ends start = record { ended = pages_by_ends 0 ends pieces; current = drop start pieces }

pub page_ended : (pieces : List Piece) (ends new : List ℕ) (start count : ℕ) (old : Draft) → drafted pieces ends start ≡ old
    → AreEndsUpTo 0 ends start → new ≡ ends ++ count ∷ [] → count ≡ length pieces
    → drafted pieces new count ≡ record { ended = old.ended ++ old.current ∷ []; current = [] }
page_ended pieces ends new start count old view e n c =
    let all : new ≡ ends ++ length pieces ∷ [] = n ∙ ap (λ k. ends ++ k ∷ []) c in
    same_draft _ _ _ _
    (ap (λ es. pages_by_ends 0 es pieces) all ∙ parts_end 0 start ends pieces e ∙ ap (λ (d : Draft). d.ended ++ d.current ∷ []) view)
    (ap (λ k. drop k pieces) c ∙ drop_none pieces)

pub ended_is : (pieces : List Piece) (ends new : List ℕ) (start count : ℕ) → AreEndsUpTo 0 ends start → start ≤ length pieces
    → new ≡ ends ++ count ∷ [] → count ≡ length pieces
    → IsDraft pieces new count 0
ended_is pieces ends new start count e h n c = record {
  in_order = subst (λ es. AreEndsUpTo 0 es count) (sym n) (end_more 0 start count ends e (omega arith));
  inside = omega arith;
  lines = ap lines_on (sym (ap (λ k. drop k pieces) c ∙ drop_none pieces));
}

piece_pushed : (pieces new : List Piece) (ends : List ℕ) (start used : ℕ) (p : Piece) → IsDraft pieces ends start used
    → new ≡ pieces ++ p ∷ []
    → drafted new ends start ≡ record { ended = pages_by_ends 0 ends pieces; current = drop start pieces ++ p ∷ [] }
piece_pushed pieces new ends start used p d n =
    same_draft _ _ _ _
    (ap (pages_by_ends 0 ends) n ∙ parts_piece 0 start ends pieces p d.in_order d.inside)
    (ap (drop start) n ∙ drop-append-le start pieces (p ∷ []) d.inside)

pub push_fits : (pieces new : List Piece) (ends : List ℕ) (start used room : ℕ) (p : Piece) (old : Draft)
    → drafted pieces ends start ≡ old → IsDraft pieces ends start used
    → new ≡ pieces ++ p ∷ [] → used + size_of p ≤ room → drafted new ends start ≡ with_piece room old p
push_fits pieces new ends start used room p old view d n h =
    let lines = d.lines in
    piece_pushed pieces new ends start used p d n
    ∙ sym (cond-true _ _ _ (le_test (lines_on (drop start pieces) + size_of p) room (omega (arith, lines))))
    ∙ ap (λ o. with_piece room o p) view

pub push_starts_page : (pieces new : List Piece) (ends : List ℕ) (start blank_used room used : ℕ) (p : Piece) (old now : Draft)
    → drafted pieces ends start ≡ now → IsDraft pieces ends start blank_used
    → now ≡ record { ended = old.ended ++ old.current ∷ []; current = [] } → new ≡ pieces ++ p ∷ [] → used ≡ lines_on old.current
    → room < used + size_of p
    → drafted new ends start ≡ with_piece room old p
push_starts_page pieces new ends start blank_used room used p old now view d ended n lines wide =
    piece_pushed pieces new ends start blank_used p d n
    ∙ ap (λ (o : Draft). let r : Draft = record { ended = o.ended; current = o.current ++ p ∷ [] } in r) (view ∙ ended)
    ∙ sym (cond-false _ _ _ (gt_test (lines_on old.current + size_of p) room (omega (arith, lines))))

-- a draft with one more piece gives the same pages
pub piece_more : (room : ℕ) (d : Draft) (p : Piece) (ps : List Piece)
    → pages_by room (with_piece room d p) ps ≡ pages_by room d (p ∷ ps)
piece_more room d p ps =
    elim (cases_lt room (lines_on d.current + size_of p)) [
      | inl wide ↦
          ap (λ (o : Draft). pages_by room o ps) (cond-false _ _ _ (gt_test (lines_on d.current + size_of p) room wide))
          ∙ append_assoc d.ended (d.current ∷ []) (fill room (p ∷ []) ps)
          ∙ ap (λ pages. d.ended ++ pages) (sym (fill_wide room d.current p ps wide))
      | inr fits ↦
          ap (λ (o : Draft). pages_by room o ps) (cond-true _ _ _ (le_test (lines_on d.current + size_of p) room fits))
          ∙ ap (λ pages. d.ended ++ pages) (sym (fill_fits room d.current p ps fits))
    ]

-- the limit of pieces does not matter if it is large enough
cut_enough : (room place height from n m : ℕ) → 0 < room → height - from ≤ n → height - from ≤ m
    → cut room place height from n ≡ cut room place height from m
cut_enough room place height from zero m r h k = cut_done room place height from zero (omega arith)
    ∙ sym (cut_done room place height from m (omega arith))
cut_enough room place height from (suc n) zero r h k = cut_done room place height from (suc n) (omega arith)
    ∙ sym (cut_done room place height from zero (omega arith))
cut_enough room place height from (suc n) (suc m) r h k =
    elim (cases_lt from height) [
      | inl more ↦
          cut_next room place height from (min height (from + room)) n more refl
          ∙ ap (λ ps. record { place = place; from = from; to = min height (from + room) } ∷ ps) (cut_enough room place height (min height (from + room)) n m r (omega arith) (omega arith))
          ∙ sym (cut_next room place height from (min height (from + room)) m more refl)
      | inr done ↦ cut_done room place height from (suc n) done ∙ sym (cut_done room place height from (suc m) done)
    ]

cut_step : (room place height from to n : ℕ) → 0 < room → from < height → to ≡ min height (from + room) → n ≡ height
    → cut room place height from n ≡ record { place = place; from = from; to = to } ∷ cut room place height to n
cut_step room place height from to zero r h e k = absurd (omega arith)
cut_step room place height from to (suc n) r h e k =
    cut_next room place height from to n h e
    ∙ ap (λ ps. record { place = place; from = from; to = to } ∷ ps) (cut_enough room place height to n (suc n) r (omega arith) (omega arith))

pub cutting_more : (room place height from to : ℕ) (now next : Draft) (p : Piece) (rest : List Piece) (pages : List (List Piece))
    → 0 < room → from < height → to ≡ min height (from + room)
    → p ≡ record { place = place; from = from; to = to } → next ≡ with_piece room now p
    → pages_by room now (cut room place height from height ++ rest) ≡ pages
    → pages_by room next (cut room place height to height ++ rest) ≡ pages
cutting_more room place height from to now next p rest pages r h e piece n so_far =
    ap (λ d. pages_by room d (cut room place height to height ++ rest)) n
    ∙ piece_more room now p (cut room place height to height ++ rest)
    ∙ ap (λ q. pages_by room now (q ∷ cut room place height to height ++ rest)) piece
    ∙ ap (λ ps. pages_by room now (ps ++ rest)) (sym (cut_step room place height from to height r h e refl))
    ∙ so_far

pub cutting_done : (room place height from : ℕ) (now : Draft) (rest : List Piece) (pages : List (List Piece)) → height ≤ from
    → pages_by room now (cut room place height from height ++ rest) ≡ pages → pages_by room now rest ≡ pages
cutting_done room place height from now rest pages h so_far = ap (λ ps. pages_by room now (ps ++ rest)) (sym (cut_done room place height from height h)) ∙ so_far

-- one more record, and none
pub records_more : (room i height : ℕ) (heights : List ℕ) (now next : Draft) (pages : List (List Piece)) → i < length heights
    → get_or heights i 0 ≡ height
    → ((rest : List Piece) → pages_by room next rest ≡ pages_by room now (cut room i height 0 height ++ rest))
    → pages_by room now (pieces_from room i (drop i heights)) ≡ pages
    → pages_by room next (pieces_from room (i + 1) (drop (i + 1) heights)) ≡ pages
unfolding pieces_from
records_more room i height heights now next pages h at step so_far =
    step (pieces_from room (i + 1) (drop (i + 1) heights))
    ∙ ap (λ k. pages_by room now (cut room i k 0 k ++ pieces_from room (i + 1) (drop (i + 1) heights))) (sym at)
    ∙ ap (λ hs. pages_by room now (pieces_from room i hs)) (sym (drop_more heights i 0 h))
    ∙ so_far

pub records_done : (room i : ℕ) (heights : List ℕ) (now : Draft) (pages result : List (List Piece)) → length heights ≤ i
    → pages_by room now (pieces_from room i (drop i heights)) ≡ pages
    → result ≡ now.ended ++ now.current ∷ [] → result ≡ pages
unfolding pieces_from fill
records_done room i heights now pages result h so_far e =
    e ∙ ap (λ hs. pages_by room now (pieces_from room i hs)) (sym (drop_past i heights h)) ∙ so_far

-- a page that is read
pub length-parts : (start : ℕ) (ends : List ℕ) (pieces : List Piece) → length (pages_by_ends start ends pieces) ≡ length ends
length-parts start [] pieces = refl
length-parts start (stop ∷ ends) pieces = ap suc (length-parts stop ends pieces)

part_at : (start last : ℕ) (ends : List ℕ) (pieces : List Piece) (i : ℕ) → AreEndsUpTo start ends last → i < length ends
    → (get_or (start ∷ ends) i 0 ≤ get_or ends i 0) × (get_or ends i 0 ≤ last) × (slice_get (pages_by_ends start ends pieces) i ≡ Some (slice_range pieces (get_or (start ∷ ends) i 0) (get_or ends i 0)))
part_at start last [] pieces i e h = absurd (omega arith)
part_at start last (stop ∷ ends) pieces zero e h = (e.0, end_after stop last ends e.1, refl)
part_at start last (stop ∷ ends) pieces (suc i) e h = part_at stop last ends pieces i e.1 (omega arith)

pub page_read : (ends ends' : List ℕ) (pieces pieces' part : List Piece) (view : List (List Piece)) (i start stop : ℕ)
    → pages_by_ends 0 ends pieces ≡ view
    → AreEndsUpTo 0 ends (length pieces) → i < length view → ends' ≡ ends → pieces' ≡ pieces
    → start ≡ get_or (0 ∷ ends') i 0 → stop ≡ get_or ends i stop
    → (start ≤ stop) × (stop ≤ length pieces') × (part ≡ slice_range pieces' start stop → slice_get view i ≡ Some part)
page_read ends ends' pieces pieces' part view i start stop v inv h e f a b =
    let n : i < length ends = omega (arith, ap length v, length-parts 0 ends pieces) in
    let at = part_at 0 (length pieces) ends pieces i inv n in
    let le = at.0 in
    let within = at.1 in
    let a' : start ≡ get_or (0 ∷ ends) i 0 = a ∙ ap (λ es. get_or (0 ∷ es) i 0) e in
    let b' : stop ≡ get_or ends i 0 = b ∙ get_or_default ends i stop 0 n in (
      omega arith,
      omega (arith, ap length f),
      (λ is. ap (λ pages. slice_get pages i) (sym v) ∙ at.2 ∙ ap (λ k. Some (slice_range pieces k (get_or ends i 0))) (sym a')
          ∙ ap (λ k. Some (slice_range pieces start k)) (sym b')
          ∙ ap (λ ps. Some (slice_range ps start stop)) (sym f) ∙ ap Some (sym is)),
    )

-- the last page ends at the end of the pieces
pub all_ended : (pieces : List Piece) (ends : List ℕ) (start used : ℕ) → IsDraft pieces ends start used → drop start pieces ≡ []
    → AreEndsUpTo 0 ends (length pieces)
all_ended pieces ends start used d none =
    let inside = d.inside in
    let same : start ≡ length pieces = omega (arith, length-drop start pieces, ap length none) in
    subst (AreEndsUpTo 0 ends) same d.in_order

-- the pieces of all pages together are all pieces
pub all_pieces-parts : (start : ℕ) (ends : List ℕ) (pieces : List Piece) → AreEndsUpTo start ends (length pieces)
    → all_pieces (pages_by_ends start ends pieces) ≡ drop start pieces
all_pieces-parts start [] pieces e = sym (drop_past start pieces (omega (arith, e)))
all_pieces-parts start (stop ∷ ends) pieces e =
    ap (λ ps. slice_range pieces start stop ++ ps) (all_pieces-parts stop ends pieces e.1) ∙ sym (drop_split pieces start stop e.0)

-- the pieces before a page are those of the pages before it
before_at : (start last : ℕ) (ends : List ℕ) (pieces : List Piece) (at : ℕ) → AreEndsUpTo start ends last → last ≤ length pieces → at < length ends
    → get_or (start ∷ ends) at 0 ≡ start + pieces_before (pages_by_ends start ends pieces) at
before_at start last [] pieces at e h n = absurd (omega arith)
before_at start last (stop ∷ ends) pieces zero e h n = omega arith
before_at start last (stop ∷ ends) pieces (suc at) e h n =
    let le = e.0 in
    let within = end_after stop last ends e.1 in
    let part = slice_range pieces start stop in
    let size : length part ≡ stop - start = omega (arith, length-take (stop - start) (drop start pieces), length-drop start pieces) in
    let rest = before_at stop last ends pieces at e.1 h (omega arith) in
    omega (arith, length-append part (all_pieces (take at (pages_by_ends stop ends pieces))))

pub before_read : (ends ends' : List ℕ) (pieces : List Piece) (view : List (List Piece)) (at start : ℕ) → pages_by_ends 0 ends pieces ≡ view
    → AreEndsUpTo 0 ends (length pieces) → at < length view → ends' ≡ ends → start ≡ get_or (0 ∷ ends') at 0 → start ≡ pieces_before view at
before_read ends ends' pieces view at start v inv h e a =
    let n : at < length ends = omega (arith, ap length v, length-parts 0 ends pieces) in
    let there : get_or (0 ∷ ends) at 0 ≡ pieces_before (pages_by_ends 0 ends pieces) at = omega (arith, before_at 0 (length pieces) ends pieces at inv (omega arith) n) in
    a ∙ (ap (λ es. get_or (0 ∷ es) at 0) e ∙ (there ∙ ap (λ pages. pieces_before pages at) v))

pub filled_ok : {E : Type 0} (result : Result (List (List Piece)) E) (room i : ℕ) (heights : List ℕ) (now : Draft) (pages : List (List Piece)) → length heights ≤ i
    → pages_by room now (pieces_from room i (drop i heights)) ≡ pages → IfOk result (λ r. r ≡ now.ended ++ now.current ∷ [])
    → IfOk result (λ r. r ≡ pages)
filled_ok (Ok r) room i heights now pages h so_far e = records_done room i heights now pages r h so_far e
filled_ok (Err x) room i heights now pages h so_far e = tt
