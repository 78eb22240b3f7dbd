-- Exactly one list of pages is valid for the heights and the room. If no record is taller than a page, no other pages
-- are fewer.
use Rattle.std.proofs.Common.{◌≡◌, ℕ, zero, suc, ◌+◌, ◌<◌, ◌≤◌, List, [], ◌∷◌, ◌++◌, length, get_or, refl, sym, ap, ◌∙◌, subst, arith, inl, inr}
use Rattle.std.specs.Prelude.{⊤, All}
use Rattle.std.specs.List.{AllByRecursion, AllAdjacentBelow}
use Rattle.std.proofs.lemmas.List.{append_assoc, length-append}
use Rattle.std.proofs.lemmas.List.Elements.{All-from_recursion, recursion_from_All}
use Rattle.std.proofs.lemmas.List.Sums.{sum_by-cons, sum_by_push}
use Rattle.std.proofs.lemmas.Bool.{cases_lt}
use Rattle.tui_pages_lib.specs.declared.piece.Piece.{Piece}
use Rattle.tui_pages_lib.specs.Pages.{size_of, lines_on, height_of, all_pieces, wholes, wholes_from, IsPiece, IsPage, EndsOnlyIfFull, ArePages, KeepWhole}
use Rattle.tui_pages_lib.specs.Filling.{pages_of, pieces_from, fill}
use Rattle.tui_pages_lib.specs.Laws.{PagesAreUnique, PagesAreFewest}
use Rattle.tui_pages_lib.proofs.Cutting.{Heights, Cuts, Fits, IsCut, Follows, same_cuts, pieces_cut, lines_cut, lines_whole, cuts_lines, cuts_are, cuts_follow, follows_page, begun_first}
use Rattle.tui_pages_lib.proofs.FillSteps.{fill_fits, fill_wide}
use Rattle.tui_pages_lib.proofs.Greedy.{Filled, Blocked, same_filled, none_fewer}

-- each element and the next, by recursion
abbrev Adjacent : {A : Type 0} → (A → A → Type 0) → List A → Type 0
Adjacent R [] = ⊤
Adjacent R (x ∷ []) = ⊤
Adjacent R (x ∷ y ∷ xs) = R x y × Adjacent R (y ∷ xs)

adjacent_of : {A : Type 0} (R : A → A → Type 0) (xs : List A) → AllAdjacentBelow R xs (length xs) → Adjacent R xs
adjacent_of R [] a = tt
adjacent_of R (x ∷ []) a = tt
adjacent_of R (x ∷ y ∷ xs) a = (
  a 0 x (omega arith),
  adjacent_of R (y ∷ xs)
      (λ k d h. let n : suc k + 1 ≡ suc (k + 1) = omega arith in subst (λ j. R (get_or (y ∷ xs) k d) (get_or (x ∷ y ∷ xs) j d)) n (a (suc k) d (omega arith))),
)

all_adjacent_of : {A : Type 0} (R : A → A → Type 0) (xs : List A) → Adjacent R xs → AllAdjacentBelow R xs (length xs)
all_adjacent_of R [] a k d h = absurd (omega arith)
all_adjacent_of R (x ∷ []) a k d h = absurd (omega arith)
all_adjacent_of R (x ∷ y ∷ xs) a zero d h = a.0
all_adjacent_of R (x ∷ y ∷ xs) a (suc k) d h =
    let n : suc (k + 1) ≡ suc k + 1 = omega arith in subst (λ j. R (get_or (y ∷ xs) k d) (get_or (x ∷ y ∷ xs) j d)) n (all_adjacent_of R (y ∷ xs) a.1 k d (omega arith))

-- what holds of all pieces holds of some of them

pub all_front : {A : Type 0} (P : A → Type 0) (xs ys : List A) → AllByRecursion P (xs ++ ys) → AllByRecursion P xs
all_front P [] ys a = tt
all_front P (x ∷ xs) ys a = (a.0, all_front P xs ys a.1)

pub all_back : {A : Type 0} (P : A → Type 0) (xs ys : List A) → AllByRecursion P (xs ++ ys) → AllByRecursion P ys
all_back P [] ys a = a
all_back P (x ∷ xs) ys a = all_back P xs ys a.1

pub all_weaker : {A : Type 0} (P Q : A → Type 0) (xs : List A) → ((x : A) → P x → Q x) → AllByRecursion P xs → AllByRecursion Q xs
all_weaker P Q [] f a = tt
all_weaker P Q (x ∷ xs) f a = (f x a.0, all_weaker P Q xs f a.1)

all_both : {A : Type 0} (P Q R : A → Type 0) (xs : List A) → ((x : A) → P x → Q x → R x) → AllByRecursion P xs
    → AllByRecursion Q xs → AllByRecursion R xs
all_both P Q R [] f a b = tt
all_both P Q R (x ∷ xs) f a b = (f x a.0 b.0, all_both P Q R xs f a.1 b.1)

-- a piece is no longer than its page
each_small : (page : List Piece) (room : ℕ) → lines_on page ≤ room → AllByRecursion (λ p. size_of p ≤ room) page
each_small [] room h = tt
each_small (p ∷ page) room h = let s = sum_by-cons size_of p page in (omega arith, each_small page room (omega arith))

all_append : {A : Type 0} (P : A → Type 0) (xs ys : List A) → AllByRecursion P xs → AllByRecursion P ys
    → AllByRecursion P (xs ++ ys)
all_append P [] ys a b = b
all_append P (x ∷ xs) ys a b = (a.0, all_append P xs ys a.1 b)

small_pieces : (room : ℕ) (pages : List (List Piece)) → AllByRecursion (λ page. lines_on page ≤ room) pages
    → AllByRecursion (λ p. size_of p ≤ room) (all_pieces pages)
small_pieces room [] a = tt
small_pieces room (page ∷ pages) a = all_append (λ p. size_of p ≤ room) page (all_pieces pages) (each_small page room a.0) (small_pieces room pages a.1)

-- pages that are valid by the definition take as much as fits

blocked_of : (all : List ℕ) (room last : ℕ) (page next : List Piece) (pages : List (List Piece)) → 0 < lines_on page
    → last ≤ lines_on page → 0 < length next
    → Follows room last (all_pieces (next ∷ pages)) → AllByRecursion (Fits all room) (all_pieces (next ∷ pages))
    → EndsOnlyIfFull all room page next → Blocked size_of room page (next ∷ pages)
blocked_of all room last page [] pages some le more f fit ends = absurd (omega arith)
blocked_of all room last page (p ∷ next) pages some le more f fit ends =
    let line = fit.0.is_piece.some in
    let whole = fit.0.is_piece.whole in
    let full = fit.0.is_piece.full in
    let continues = f.0 in
    elim (cases_lt 0 p.from) [
      | inl on ↦ (let k = continues on in omega arith)
      | inr first ↦
          (let zero_from : p.from ≡ 0 = omega arith in
          let due = ends zero_from in
          elim (cases_lt room (height_of all p)) [
            | inl tall ↦ elim (cases_lt p.to (height_of all p)) [
              | inl more ↦ (let k : size_of p ≡ room = full tall more in omega arith)
              | inr done ↦ omega arith
            ]
            | inr bounded ↦ (let w = whole bounded in let w1 = w.1 in omega arith)
          ])
    ]

some_lines_on : (all : List ℕ) (room : ℕ) (page : List Piece) → 0 < length page → AllByRecursion (Fits all room) page
    → 0 < lines_on page
some_lines_on all room [] h fit = absurd (omega arith)
some_lines_on all room (p ∷ page) h fit = let line = fit.0.is_piece.some in omega (arith, sum_by-cons size_of p page)

filled_of : (all : List ℕ) (room before : ℕ) (pages : List (List Piece)) → Follows room before (all_pieces pages)
    → AllByRecursion (Fits all room) (all_pieces pages)
    → AllByRecursion (λ page. 0 < length page) pages → AllByRecursion (λ page. lines_on page ≤ room) pages
    → Adjacent (EndsOnlyIfFull all room) pages → Filled size_of room pages
filled_of all room before [] f fit some within ends = tt
filled_of all room before (page ∷ []) f fit some within ends = (within.0, some.0, tt, tt)
filled_of all room before ([] ∷ next ∷ pages) f fit some within ends = absurd (let n = some.0 in omega arith)
filled_of all room before ((p ∷ page) ∷ next ∷ pages) f fit some within ends =
    let k = follows_page room (size_of p) page (all_pieces (next ∷ pages)) f.1 in
    let le = k.1 in
    let lines = some_lines_on all room (p ∷ page) some.0 (all_front (Fits all room) (p ∷ page) (all_pieces (next ∷ pages)) fit) in
    let fit' = all_back (Fits all room) (p ∷ page) (all_pieces (next ∷ pages)) fit in (
      within.0,
      some.0,
      blocked_of all room k.0 (p ∷ page) next pages lines (omega (arith, sum_by-cons size_of p page)) some.1.0 k.2 fit' ends.0,
      filled_of all room k.0 (next ∷ pages) k.2 fit' some.1 within.1 ends.1,
    )

-- the definition of pages, as recursions
pub record Known (heights : List ℕ) (room : ℕ) (pages : List (List Piece)) : Type 0 where
  pub cuts : Cuts room 0 0 heights (all_pieces pages)
  pub filled : Filled size_of room pages

pub known_of : (heights : List ℕ) (room : ℕ) (pages : List (List Piece)) → Heights heights → 0 < length heights
    → ArePages heights room pages → Known heights room pages
known_of heights room pages high some are =
    let within = all_weaker (IsPage heights room) (λ page. lines_on page ≤ room) pages (λ page k. k.within) (recursion_from_All (IsPage heights room) pages are.each_page) in
    let fits = all_both (IsPiece heights room) (λ p. size_of p ≤ room) (Fits heights room) (all_pieces pages) (λ p a b. record { is_piece = a; small = b })
    (recursion_from_All (IsPiece heights room) (all_pieces pages) are.each_piece) (small_pieces room pages within) in
    let cuts = lines_cut heights room 0 0 heights (all_pieces pages) refl high (begun_first heights high) fits (are.lines
    ∙ sym (lines_whole 0 heights)) in
    record {
      cuts = cuts;
      filled = filled_of heights room 0 pages (cuts_follow room 0 0 0 heights (all_pieces pages) (λ z. absurd (omega arith)) cuts) fits
          (recursion_from_All (λ page. 0 < length page) pages (are.some some)) within
          (adjacent_of (EndsOnlyIfFull heights room) pages are.ends);
    }

-- pages that are filled one after another

pub fill_pieces : (room : ℕ) (page ps : List Piece) → all_pieces (fill room page ps) ≡ page ++ ps
unfolding fill
fill_pieces room page [] = refl
fill_pieces room page (p ∷ ps) =
    elim (cases_lt room (lines_on page + size_of p)) [
      | inl wide ↦ ap all_pieces (fill_wide room page p ps wide) ∙ ap (λ l. page ++ l) (fill_pieces room (p ∷ []) ps)
      | inr fits ↦ ap all_pieces (fill_fits room page p ps fits) ∙ fill_pieces room (page ++ p ∷ []) ps
          ∙ append_assoc page (p ∷ []) ps
    ]

begins_with : (room : ℕ) (before page ps : List Piece) (p : Piece) → room < lines_on before + size_of p
    → Blocked size_of room before (fill room (p ∷ page) ps)
unfolding fill
begins_with room before page [] p h = h
begins_with room before page (q ∷ ps) p h =
    elim (cases_lt room (lines_on (p ∷ page) + size_of q)) [
      | inl wide ↦ subst (Blocked size_of room before) (sym (fill_wide room (p ∷ page) q ps wide)) h
      | inr fits ↦ subst (Blocked size_of room before) (sym (fill_fits room (p ∷ page) q ps fits)) (begins_with room before (page ++ q ∷ []) ps p h)
    ]

fill_filled : (room : ℕ) (page ps : List Piece) → 0 < length page → lines_on page ≤ room
    → AllByRecursion (λ p. size_of p ≤ room) ps → Filled size_of room (fill room page ps)
unfolding fill
fill_filled room page [] some within small = (within, some, tt, tt)
fill_filled room page (p ∷ ps) some within small =
    let first = small.0 in
    elim (cases_lt room (lines_on page + size_of p)) [
      | inl wide ↦
          subst (Filled size_of room) (sym (fill_wide room page p ps wide))
          (within, some, begins_with room page [] ps p wide, fill_filled room (p ∷ []) ps (omega arith) (omega (arith, sum_by-cons size_of p [])) small.1)
      | inr fits ↦
          subst (Filled size_of room) (sym (fill_fits room page p ps fits))
          (fill_filled room (page ++ p ∷ []) ps (omega (arith, length-append page (p ∷ []))) (omega (arith, sum_by_push size_of page p)) small.1)
    ]

filled_first : (heights : List ℕ) (room : ℕ) (ps : List Piece) → 0 < length heights → Cuts room 0 0 heights ps
    → AllByRecursion (IsCut heights room) ps → Filled size_of room (fill room [] ps)
filled_first [] room ps some c cuts = absurd (omega arith)
filled_first (height ∷ heights) room [] some c cuts = absurd c
filled_first (height ∷ heights) room (p ∷ ps) some c cuts =
    let small = cuts.0.small in
    subst (Filled size_of room) (sym (fill_fits room [] p ps (omega arith)))
    (fill_filled room (p ∷ []) ps (omega arith) (omega (arith, sum_by-cons size_of p [])) (all_weaker (IsCut (height ∷ heights) room) (λ q. size_of q ≤ room) ps (λ q k. k.small) cuts.1))

known_pages : (heights : List ℕ) (room : ℕ) → 0 < room → Heights heights → 0 < length heights
    → Known heights room (pages_of heights room)
unfolding pages_of
known_pages heights room r high some =
    let cuts = pieces_cut room 0 heights r high in
    let whole : all_pieces (pages_of heights room) ≡ pieces_from room 0 heights = fill_pieces room [] (pieces_from room 0 heights) in
    record {
      cuts = subst (Cuts room 0 0 heights) (sym whole) cuts;
      filled = filled_first heights room (pieces_from room 0 heights) some cuts (cuts_are heights room 0 0 heights (pieces_from room 0 heights) r refl high (begun_first heights high) (λ h. refl) cuts);
    }

-- such pages are valid by the definition

page_is : (heights : List ℕ) (room : ℕ) (page : List Piece) → lines_on page ≤ room → AllByRecursion (IsCut heights room) page
    → IsPage heights room page
page_is heights room [] within cuts = record { within = within; first = λ k d h. absurd (omega arith) }
page_is heights room (p ∷ page) within cuts =
    let line = cuts.0.is_piece.some in
    let bounded : lines_on page < room = omega (arith, sum_by-cons size_of p page) in
    let small = each_small page (lines_on page) (omega arith) in
    record {
      within = within;
      first = All-from_recursion (λ q. q.from ≡ 0 → height_of heights q ≤ room) page
          (all_both (IsCut heights room) (λ q. size_of q ≤ lines_on page) (λ q. q.from ≡ 0 → height_of heights q ≤ room) page
          (λ q c l z. elim (cases_lt room (height_of heights q)) [ inl tall ↦ (let f = c.tall z tall in omega arith) | inr le ↦ le ])
          cuts.1 small);
    }

pages_are : (heights : List ℕ) (room : ℕ) (pages : List (List Piece)) → Filled size_of room pages
    → AllByRecursion (IsCut heights room) (all_pieces pages)
    → AllByRecursion (IsPage heights room) pages
pages_are heights room [] f cuts = tt
pages_are heights room (page ∷ pages) f cuts =
    (page_is heights room page f.0 (all_front (IsCut heights room) page (all_pieces pages) cuts), pages_are heights room pages f.3 (all_back (IsCut heights room) page (all_pieces pages) cuts))

ends_only_if_full : (heights : List ℕ) (room : ℕ) (pages : List (List Piece)) → Filled size_of room pages
    → AllByRecursion (IsCut heights room) (all_pieces pages) → Adjacent (EndsOnlyIfFull heights room) pages
ends_only_if_full heights room [] f cuts = tt
ends_only_if_full heights room (page ∷ []) f cuts = tt
ends_only_if_full heights room (page ∷ [] ∷ pages) f cuts = absurd (let n = f.3.1 in omega arith)
ends_only_if_full heights room (page ∷ (p ∷ next) ∷ pages) f cuts =
    let rest = all_back (IsCut heights room) page (all_pieces ((p ∷ next) ∷ pages)) cuts in
    let blocked = f.2 in
    let bounded = rest.0.bounded in
    ((λ z. omega arith), ends_only_if_full heights room ((p ∷ next) ∷ pages) f.3 rest)

each_some : (room : ℕ) (pages : List (List Piece)) → Filled size_of room pages → AllByRecursion (λ page. 0 < length page) pages
each_some room [] f = tt
each_some room (page ∷ pages) f = (f.1, each_some room pages f.3)

are_of : (heights : List ℕ) (room : ℕ) (pages : List (List Piece)) → 0 < room → Heights heights → 0 < length heights
    → Known heights room pages → ArePages heights room pages
are_of heights room pages r high some known =
    let cuts = cuts_are heights room 0 0 heights (all_pieces pages) r refl high (begun_first heights high) (λ h. refl) known.cuts in
    record {
      lines = cuts_lines room 0 0 heights (all_pieces pages) r high (begun_first heights high) known.cuts ∙ lines_whole 0 heights;
      each_piece = All-from_recursion (IsPiece heights room) (all_pieces pages) (all_weaker (IsCut heights room) (IsPiece heights room) (all_pieces pages) (λ p c. c.is_piece) cuts);
      each_page = All-from_recursion (IsPage heights room) pages (pages_are heights room pages known.filled cuts);
      ends = all_adjacent_of (EndsOnlyIfFull heights room) pages (ends_only_if_full heights room pages known.filled cuts);
      some = λ h. All-from_recursion (λ page. 0 < length page) pages (each_some room pages known.filled);
      none = λ z. absurd (omega arith);
    }

same_pages : (heights : List ℕ) (room : ℕ) (pages others : List (List Piece)) → Known heights room pages
    → Known heights room others → pages ≡ others
same_pages heights room pages others a b =
    same_filled size_of room pages others a.filled b.filled (same_cuts room 0 0 heights (all_pieces pages) (all_pieces others) a.cuts b.cuts)

no_pages : (room : ℕ) → ArePages [] room ([] ∷ [])
no_pages room = record {
  lines = refl;
  each_piece = λ k d h. absurd (omega arith);
  each_page = All-from_recursion (IsPage [] room) ([] ∷ []) (record { within = omega arith; first = λ k d h. absurd (omega arith) }, tt);
  ends = λ k d h. absurd (omega arith);
  some = λ h. absurd (omega arith);
  none = λ z. refl;
}

pub pages_are_unique : PagesAreUnique
unfolding pages_of fill pieces_from
pages_are_unique [] room some high = (no_pages room, (λ pages are. are.none refl))
pages_are_unique (height ∷ heights) room some high =
    let high' = recursion_from_All (λ h. 0 < h) (height ∷ heights) high in
    let known = known_pages (height ∷ heights) room some high' (omega arith) in (
      are_of (height ∷ heights) room (pages_of (height ∷ heights) room) some high' (omega arith) known,
      (λ pages are. same_pages (height ∷ heights) room pages (pages_of (height ∷ heights) room) (known_of (height ∷ heights) room pages high' (omega arith) are) known),
    )

-- records that fit are cut into whole pieces
wholes_cut : (room place : ℕ) (heights : List ℕ) → AllByRecursion (λ h. h ≤ room) heights
    → Cuts room place 0 heights (wholes_from place heights)
wholes_cut room place [] bounded = refl
wholes_cut room place (height ∷ heights) bounded = let le = bounded.0 in (refl, refl, omega arith, inr (omega arith, wholes_cut room (place + 1) heights bounded.1))

pub pages_are_fewest : PagesAreFewest
pages_are_fewest heights room pages others some high bounded are keep =
    let high' = recursion_from_All (λ h. 0 < h) heights high in
    let known = known_of heights room pages high' some are in
    let same = same_cuts room 0 0 heights (wholes heights) (all_pieces pages) (wholes_cut room 0 heights (recursion_from_All (λ h. h ≤ room) heights bounded)) known.cuts in
    none_fewer size_of room [] pages others known.filled (recursion_from_All (λ page. lines_on page ≤ room) others keep.within) (keep.whole ∙ same)

pub pages_found : (heights : List ℕ) (room : ℕ) (pages : List (List Piece)) → 0 < room → All (λ h. 0 < h) heights
    → pages ≡ pages_of heights room → ArePages heights room pages
pages_found heights room pages r high e = subst (ArePages heights room) (sym e) (pages_are_unique heights room r high).0

pub pages_found_fewest : (heights : List ℕ) (room : ℕ) (pages : List (List Piece)) → 0 < room → All (λ h. 0 < h) heights
    → pages ≡ pages_of heights room
    → 0 < length heights → All (λ h. h ≤ room) heights → (others : List (List Piece)) → KeepWhole heights room others
    → length pages ≤ length others
pages_found_fewest heights room pages r high e some bounded others keep = pages_are_fewest heights room pages others some high bounded (pages_found heights room pages r high e) keep
