-- Cutting records into pieces.
use Rattle.std.proofs.Common.{◌≡◌, ℕ, zero, suc, ◌+◌, ◌-◌, ◌<◌, ◌≤◌, min, List, [], ◌∷◌, ◌++◌, length, get_or, drop, true, false, refl, sym, ap, ◌∙◌, subst, arith, inl, inr}
use Rattle.std.specs.Prelude.{◌⊎◌, ⊤, nat_lt, map, sum_by, flat_map, slice_index}
use Rattle.std.specs.List.{AllByRecursion, range_with_len}
use Rattle.std.proofs.lemmas.List.{append_assoc, append_cancel_left, drop-drop, get_or-drop}
use Rattle.std.proofs.lemmas.List.Sums.{sum_by-cons}
use Rattle.std.proofs.lemmas.Bool.{cases_lt, cond-true, cond-false}
use Rattle.std.proofs.lemmas.Bool.Decides.{nat_tests}
use Rattle.tui_pages_lib.specs.declared.piece.Piece.{Piece}
use Rattle.tui_pages_lib.specs.Pages.{size_of, lines_of, wholes_from, IsPiece, height_of}
use Rattle.tui_pages_lib.specs.Filling.{cut, pieces_from}

abbrev pub Heights : List ℕ → Type 0
Heights heights = AllByRecursion (λ height. 0 < height) heights

-- the pieces of the records from this index on; earlier pieces already have the first `from` lines of the first one
abbrev pub Cuts : ℕ → ℕ → ℕ → List ℕ → List Piece → Type 0
Cuts room place from [] ps = ps ≡ []
Cuts room place from (height ∷ heights) [] = ⊥
Cuts room place from (height ∷ heights) (p ∷ ps) =
    (p.place ≡ place) × (p.from ≡ from) × (p.to ≡ min height (from + room)) ×
    ((from + room < height) × Cuts room place (from + room) (height ∷ heights) ps ⊎ (height ≤ from + room) × Cuts room (place + 1) 0 heights ps)

pub same_piece : (p q : Piece) (place from to : ℕ) → p.place ≡ place → p.from ≡ from → p.to ≡ to → q.place ≡ place
    → q.from ≡ from → q.to ≡ to → p ≡ q
same_piece p q place from to a b c d e f =
    let made : (i j k l m n : ℕ) → i ≡ l → j ≡ m → k ≡ n
    → (let r : Piece = record { place = i; from = j; to = k } in r) ≡ record { place = l; from = m; to = n } = λ i j k l m n x y z. cc in
    made p.place p.from p.to q.place q.from q.to (a ∙ sym d) (b ∙ sym e) (c ∙ sym f)

pub same_cuts : (room place from : ℕ) (heights : List ℕ) (ps qs : List Piece) → Cuts room place from heights ps
    → Cuts room place from heights qs → ps ≡ qs
same_cuts room place from [] ps qs c d = c ∙ sym d
same_cuts room place from (height ∷ heights) [] qs c d = absurd c
same_cuts room place from (height ∷ heights) (p ∷ ps) [] c d = absurd d
same_cuts room place from (height ∷ heights) (p ∷ ps) (q ∷ qs) c d =
    let heads : p ≡ q = same_piece p q _ _ _ c.0 c.1 c.2 d.0 d.1 d.2 in
    let tails : ps ≡ qs =
    elim c.3 [
      | inl more ↦ elim d.3 [
        | inl more' ↦ same_cuts room place (from + room) (height ∷ heights) ps qs more.1 more'.1
        | inr done ↦ absurd (let a = more.0 in let b = done.0 in omega arith)
      ]
      | inr done ↦ elim d.3 [
        | inl more ↦ absurd (let a = more.0 in let b = done.0 in omega arith)
        | inr done' ↦ same_cuts room (place + 1) 0 heights ps qs done.1 done'.1
      ]
    ] in
    cc

-- cutting gives these pieces

pub lt_test : (a b : ℕ) → a < b → nat_lt a b ≡ true
lt_test a b h = grind (arith, nat_tests)

pub ge_test : (a b : ℕ) → b ≤ a → nat_lt a b ≡ false
ge_test a b h = grind (arith, nat_tests)

pub cut_done : (room place height from n : ℕ) → height ≤ from → cut room place height from n ≡ []
unfolding cut
cut_done room place height from zero h = refl
cut_done room place height from (suc n) h = cond-false _ _ _ (ge_test from height h)

pub cut_next : (room place height from to n : ℕ) → from < height → to ≡ min height (from + room)
    → cut room place height from (suc n) ≡ record { place = place; from = from; to = to } ∷ cut room place height to n
unfolding cut
cut_next room place height from to n h e = rw e (cond-true _ _ _ (lt_test from height h))

cut_cuts : (room place height from n : ℕ) (heights : List ℕ) (rest : List Piece) → 0 < room → from < height → height - from ≤ n
    → Cuts room (place + 1) 0 heights rest → Cuts room place from (height ∷ heights) (cut room place height from n ++ rest)
cut_cuts room place height from zero heights rest r b m c = absurd (omega arith)
cut_cuts room place height from (suc n) heights rest r b m c =
    let P = λ (ps : List Piece). Cuts room place from (height ∷ heights) (ps ++ rest) in
    elim (cases_lt (from + room) height) [
      | inl more ↦
          subst P (sym (cut_next room place height from (from + room) n b (omega arith)))
          (refl, refl, omega arith, inl (more, cut_cuts room place height (from + room) n heights rest r more (omega arith) c))
      | inr done ↦
          subst P (sym (cut_next room place height from height n b (omega arith)
          ∙ ap (λ ps. record { place = place; from = from; to = height } ∷ ps) (cut_done room place height height n (omega arith))))
          (refl, refl, omega arith, inr (done, c))
    ]

pub pieces_cut : (room place : ℕ) (heights : List ℕ) → 0 < room → Heights heights
    → Cuts room place 0 heights (pieces_from room place heights)
unfolding pieces_from
pieces_cut room place [] r h = refl
pieces_cut room place (height ∷ heights) r h =
    cut_cuts room place height 0 height heights (pieces_from room (place + 1) heights) r h.0 (omega arith) (pieces_cut room (place + 1) heights r h.1)

-- the lines of a record from one of them on

abbrev pub some_lines : ℕ → ℕ → ℕ → List (ℕ × ℕ)
some_lines place from count = map (λ line. (place, line)) (range_with_len from count)

some_lines_split : (place from middle first second count : ℕ) → middle ≡ from + first → count ≡ first + second
    → some_lines place from count ≡ some_lines place from first ++ some_lines place middle second
some_lines_split place from middle zero second count m c =
    let same : count ≡ second = omega arith in let start : from ≡ middle = omega arith in rw (same, start) refl
some_lines_split place from middle (suc first) second zero m c = absurd (omega arith)
some_lines_split place from middle (suc first) second (suc count) m c =
    ap (λ ls. (place, from) ∷ ls) (some_lines_split place (from + 1) middle first second count (omega arith) (omega arith))

first_line : (place from count : ℕ) → 0 < count
    → some_lines place from count ≡ (place, from) ∷ some_lines place (from + 1) (count - 1)
first_line place from zero h = absurd (omega arith)
first_line place from (suc count) h = let less : suc count - 1 ≡ count = omega arith in rw less refl

-- the lines of the records from this index on, except the first ones of the first record
abbrev pub lines_from : ℕ → ℕ → List ℕ → List (ℕ × ℕ)
lines_from place from [] = []
lines_from place from (height ∷ heights) = some_lines place from (height - from) ++ flat_map lines_of (wholes_from (place + 1) heights)

pub lines_whole : (place : ℕ) (heights : List ℕ) → lines_from place 0 heights ≡ flat_map lines_of (wholes_from place heights)
lines_whole place [] = refl
lines_whole place (height ∷ heights) = refl

-- if the lines of records start with a line, that is the first line of the record at this index
begins : (place from : ℕ) (heights : List ℕ) (rest : List (ℕ × ℕ)) (x : ℕ × ℕ) → Heights heights
    → x ∷ rest ≡ lines_from place 0 heights → x.0 ≡ place
begins place from [] rest x h e = absurd (let n = ap length e in omega arith)
begins place from (height ∷ heights) rest x h e =
    let f : some_lines place 0 (height - 0) ≡ (place, 0) ∷ some_lines place 1 (height - 0 - 1) = first_line place 0 (height - 0) (let n = h.0 in omega arith) in
    let g = rw f at e in
    let same : x ≡ (place, 0) = cc in
    ap (λ (y : ℕ × ℕ). y.0) same

pub drop_next : {A : Type 0} (n : ℕ) (xs : List A) (x : A) (rest : List A) → drop n xs ≡ x ∷ rest → drop (n + 1) xs ≡ rest
drop_next n xs x rest e = sym (drop-drop 1 n xs) ∙ ap (drop 1) e

pub height_at : (n : ℕ) (xs : List ℕ) (x : ℕ) (rest : List ℕ) → drop n xs ≡ x ∷ rest → slice_index xs n ≡ x
height_at n xs x rest e = let same : n + 0 ≡ n = omega arith in ap (λ i. get_or xs i 0) (sym same) ∙ sym (get_or-drop n xs 0 0)
    ∙ ap (λ ys. get_or ys 0 0) e

-- what is known of a piece: it is valid by the definition, and no longer than a page
pub record Fits (heights : List ℕ) (room : ℕ) (p : Piece) : Type 0 where
  pub is_piece : IsPiece heights room p
  pub small : size_of p ≤ room

-- pieces that are valid by the definition and give the right lines are these pieces
same_start : (p : Piece) (place from count : ℕ) (ls ms : List (ℕ × ℕ)) → p.from < p.to → 0 < count
    → lines_of p ++ ls ≡ some_lines place from count ++ ms → (p.place ≡ place) × (p.from ≡ from)
same_start p place from count ls ms some more e =
    let f : lines_of p ≡ (p.place, p.from) ∷ some_lines p.place (p.from + 1) (size_of p - 1) = first_line p.place p.from (size_of p) (omega arith) in
    let g = first_line place from count more in
    let h : ((p.place, p.from) ∷ some_lines p.place (p.from + 1) (size_of p - 1)) ++ ls ≡ ((place, from) ∷ some_lines place (from + 1) (count - 1)) ++ ms =
    ap (λ l. l ++ ls) (sym f) ∙ e ∙ ap (λ l. l ++ ms) g in
    let same : (let x : ℕ × ℕ = (p.place, p.from) in x) ≡ (place, from) = cc in
    (ap (λ (y : ℕ × ℕ). y.0) same, ap (λ (y : ℕ × ℕ). y.1) same)

-- how far the next piece of a record goes
next_end : (all : List ℕ) (room height : ℕ) (p : Piece) → Fits all room p → slice_index all p.place ≡ height → p.to ≤ height
    → p.to ≡ min height (p.from + room)
next_end all room height p fits at le =
    let whole = fits.is_piece.whole in
    let full = fits.is_piece.full in
    let some = fits.is_piece.some in
    let small = fits.small in
    elim (cases_lt room height) [
      | inl tall ↦ elim (cases_lt p.to height) [
        | inl more ↦ (let f : size_of p ≡ room = full (omega arith) (omega arith) in omega arith)
        | inr done ↦ omega arith
      ]
      | inr bounded ↦ (let w = whole (omega arith) in let w0 = w.0 in let w1 = w.1 in omega arith)
    ]

-- the first record, if there is one, has a line from there on
abbrev pub Begun : ℕ → List ℕ → Type 0
Begun from [] = ⊤
Begun from (height ∷ heights) = from < height

pub begun_first : (heights : List ℕ) → Heights heights → Begun 0 heights
begun_first [] high = tt
begun_first (height ∷ heights) high = high.0

pub lines_cut : (all : List ℕ) (room place from : ℕ) (heights : List ℕ) (ps : List Piece) → drop place all ≡ heights
    → Heights heights
    → Begun from heights → AllByRecursion (Fits all room) ps → flat_map lines_of ps ≡ lines_from place from heights
    → Cuts room place from heights ps
lines_cut all room place from [] [] at high b fit e = refl
lines_cut all room place from [] (p ∷ ps) at high b fit e =
    let some = fit.0.is_piece.some in
    absurd (omega (arith, ap length (ap (λ l. l ++ flat_map lines_of ps) (sym (first_line p.place p.from (size_of p) (omega arith))) ∙ e)))
lines_cut all room place from (height ∷ heights) [] at high b fit e =
    absurd (omega (
      arith,
      ap length (e
          ∙ ap (λ l. l ++ flat_map lines_of (wholes_from (place + 1) heights)) (first_line place from (height - from) (omega arith))),
    ))
lines_cut all room place from (height ∷ heights) (p ∷ ps) at high b fit e =
    let some = fit.0.is_piece.some in
    let start = same_start p place from (height - from) (flat_map lines_of ps) (flat_map lines_of (wholes_from (place + 1) heights)) some (omega arith) e in
    let start0 = start.0 in
    let start1 = start.1 in
    let here : lines_of p ≡ some_lines place from (size_of p) = ap (λ i. some_lines i p.from (size_of p)) start0
    ∙ ap (λ i. some_lines place i (size_of p)) start1 in
    let e' : some_lines place from (size_of p) ++ flat_map lines_of ps ≡ lines_from place from (height ∷ heights) = ap (λ l. l ++ flat_map lines_of ps) (sym here) ∙ e in
    let tall : slice_index all p.place ≡ height = ap (slice_index all) start0 ∙ height_at place all height heights at in
    let rest = flat_map lines_of (wholes_from (place + 1) heights) in
    elim (cases_lt height p.to) [
      | inl past ↦
          -- a line past the end of the record
          (let f : some_lines place from (size_of p) ≡ some_lines place from (height - from) ++ some_lines place height (p.to - height) = some_lines_split place from height (height - from) (p.to - height) (size_of p) (omega arith) (omega arith) in
          let g : some_lines place from (height - from) ++ (some_lines place height (p.to - height) ++ flat_map lines_of ps) ≡ some_lines place from (height - from) ++ rest =
          sym (append_assoc (some_lines place from (height - from)) (some_lines place height (p.to - height)) (flat_map lines_of ps)) ∙ ap (λ l. l ++ flat_map lines_of ps) (sym f) ∙ e' in
          let k = append_cancel_left _ _ _ g in
          let m : ((place, height) ∷ some_lines place (height + 1) (p.to - height - 1)) ++ flat_map lines_of ps ≡ lines_from (place + 1) 0 heights =
          ap (λ l. l ++ flat_map lines_of ps) (sym (first_line place height (p.to - height) (omega arith))) ∙ k
          ∙ sym (lines_whole (place + 1) heights) in
          let wrong : place ≡ place + 1 = begins (place + 1) 0 heights _ (place, height) high.1 m in
          absurd (omega arith))
      | inr within ↦
          (let last : p.to ≡ min height (p.from + room) = next_end all room height p fit.0 tall within in
          elim (cases_lt (from + room) height) [
            | inl more ↦
                (let f : some_lines place from (height - from) ≡ some_lines place from (size_of p) ++ some_lines place (from + room) (height - (from + room)) =
                some_lines_split place from (from + room) (size_of p) (height - (from + room)) (height - from) (omega arith) (omega arith) in
                let g : some_lines place from (size_of p) ++ flat_map lines_of ps ≡ some_lines place from (size_of p) ++ (some_lines place (from + room) (height - (from + room)) ++ rest) =
                e' ∙ ap (λ l. l ++ rest) f
                ∙ append_assoc (some_lines place from (size_of p)) (some_lines place (from + room) (height - (from + room))) rest in (
                  start0,
                  start1,
                  omega arith,
                  inl (more, lines_cut all room place (from + room) (height ∷ heights) ps at high more fit.1 (append_cancel_left _ _ _ g)),
                ))
            | inr done ↦
                (let n : size_of p ≡ height - from = omega arith in
                let g : some_lines place from (height - from) ++ flat_map lines_of ps ≡ some_lines place from (height - from) ++ rest =
                ap (λ i. some_lines place from i ++ flat_map lines_of ps) (sym n) ∙ e' in (
                  start0,
                  start1,
                  omega arith,
                  inr (done, lines_cut all room (place + 1) 0 heights ps (drop_next place all height heights at) high.1 (begun_first heights high.1) fit.1 (append_cancel_left _ _ _ g ∙ sym (lines_whole (place + 1) heights))),
                ))
          ])
    ]

-- these pieces have the lines of the records

pub cuts_lines : (room place from : ℕ) (heights : List ℕ) (ps : List Piece) → 0 < room → Heights heights → Begun from heights
    → Cuts room place from heights ps
    → flat_map lines_of ps ≡ lines_from place from heights
cuts_lines room place from [] ps r high b c = ap (flat_map lines_of) c
cuts_lines room place from (height ∷ heights) [] r high b c = absurd c
cuts_lines room place from (height ∷ heights) (p ∷ ps) r high b c =
    let to = c.2 in
    let at = c.1 in
    let rest = flat_map lines_of (wholes_from (place + 1) heights) in
    let here : lines_of p ≡ some_lines place from (size_of p) = ap (λ i. some_lines i p.from (size_of p)) c.0
    ∙ ap (λ i. some_lines place i (size_of p)) c.1 in
    elim c.3 [
      | inl more ↦
          (let le = more.0 in
          ap (λ l. l ++ flat_map lines_of ps) here
          ∙ ap (λ l. some_lines place from (size_of p) ++ l) (cuts_lines room place (from + room) (height ∷ heights) ps r high le more.1)
          ∙ sym (append_assoc (some_lines place from (size_of p)) (some_lines place (from + room) (height - (from + room))) rest)
          ∙ ap (λ l. l ++ rest) (sym (some_lines_split place from (from + room) (size_of p) (height - (from + room)) (height - from) (omega arith) (omega arith))))
      | inr done ↦
          (let le = done.0 in
          let n : size_of p ≡ height - from = omega arith in
          ap (λ l. l ++ flat_map lines_of ps) (here ∙ ap (some_lines place from) n)
          ∙ ap (λ l. some_lines place from (height - from) ++ l) (cuts_lines room (place + 1) 0 heights ps r high.1 (begun_first heights high.1) done.1 ∙ lines_whole (place + 1) heights))
    ]

-- they are valid by the definition
pub record IsCut (heights : List ℕ) (room : ℕ) (p : Piece) : Type 0 where
  pub is_piece : IsPiece heights room p
  pub small : size_of p ≤ room
  pub bounded : size_of p ≤ height_of heights p
  pub tall : p.from ≡ 0 → room < height_of heights p → size_of p ≡ room

cut_is : (all : List ℕ) (room height from : ℕ) (p : Piece) → 0 < room → slice_index all p.place ≡ height → p.from ≡ from
    → from < height → (height ≤ room → from ≡ 0)
    → p.to ≡ min height (from + room) → IsCut all room p
cut_is all room height from p r at start b bounded to = record {
  is_piece = record {
    some = omega arith;
    whole = λ h. let z = bounded (omega arith) in (omega arith, omega arith);
    full = λ h k. omega arith;
  };
  small = omega arith;
  bounded = omega arith;
  tall = λ z h. omega arith;
}

pub cuts_are : (all : List ℕ) (room place from : ℕ) (heights : List ℕ) (ps : List Piece) → 0 < room → drop place all ≡ heights
    → Heights heights → Begun from heights
    → (slice_index all place ≤ room → from ≡ 0) → Cuts room place from heights ps → AllByRecursion (IsCut all room) ps
cuts_are all room place from [] ps r at high b bounded c = subst (AllByRecursion (IsCut all room)) (sym c) tt
cuts_are all room place from (height ∷ heights) [] r at high b bounded c = absurd c
cuts_are all room place from (height ∷ heights) (p ∷ ps) r at high b bounded c =
    let here : slice_index all place ≡ height = height_at place all height heights at in
    let there : slice_index all p.place ≡ height = ap (slice_index all) c.0 ∙ here in
    let first = cut_is all room height from p r there c.1 b (λ h. bounded (omega arith)) c.2 in
    elim c.3 [
      | inl more ↦ (let le = more.0 in (first, cuts_are all room place (from + room) (height ∷ heights) ps r at high le (λ h. absurd (omega arith)) more.1))
      | inr done ↦ (first, cuts_are all room (place + 1) 0 heights ps r (drop_next place all height heights at) high.1 (begun_first heights high.1) (λ h. refl) done.1)
    ]

-- a piece that continues a record follows one of `room` lines
abbrev pub Follows : ℕ → ℕ → List Piece → Type 0
Follows room before [] = ⊤
Follows room before (p ∷ ps) = (0 < p.from → room ≤ before) × Follows room (size_of p) ps

pub cuts_follow : (room place from before : ℕ) (heights : List ℕ) (ps : List Piece) → (0 < from → room ≤ before)
    → Cuts room place from heights ps → Follows room before ps
cuts_follow room place from before [] ps h c = subst (Follows room before) (sym c) tt
cuts_follow room place from before (height ∷ heights) [] h c = tt
cuts_follow room place from before (height ∷ heights) (p ∷ ps) h c =
    let at = c.1 in
    let to = c.2 in
    elim c.3 [
      | inl more ↦ (let le = more.0 in ((λ z. h (omega arith)), cuts_follow room place (from + room) (size_of p) (height ∷ heights) ps (λ z. omega arith) more.1))
      | inr done ↦ ((λ z. h (omega arith)), cuts_follow room (place + 1) 0 (size_of p) heights ps (λ z. absurd (omega arith)) done.1)
    ]

-- the same for the pieces after a page
pub follows_page : (room before : ℕ) (page rest : List Piece) → Follows room before (page ++ rest)
    → (last : ℕ) × (last ≤ before + sum_by size_of page) × Follows room last rest
follows_page room before [] rest f = (before, omega arith, f)
follows_page room before (p ∷ page) rest f =
    let k = follows_page room (size_of p) page rest f.1 in
    let le = k.1 in
    (k.0, omega (arith, sum_by-cons size_of p page), k.2)
