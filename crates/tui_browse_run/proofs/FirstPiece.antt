-- The first piece of a text.
use Rattle.std.proofs.Common.{◌≡◌, ◌≢◌, ℕ, zero, suc, ◌+◌, ◌-◌, ◌<◌, ◌≤◌, Bool, true, false, List, [], ◌∷◌, length, take, get_or, refl, sym, ap, subst, ◌∙◌, arith, inl, inr}
use Rattle.std.specs.Prelude.{slice_index, min}
use Rattle.std.specs.Char.{len_utf8}
use Rattle.std.specs.Str.{IsCharBoundary, IsUtf8}
use Rattle.std.proofs.lemmas.Bool.{cases_lt}
use Rattle.std.proofs.Math.Utf8.{encodes}
use Rattle.std.proofs.lemmas.List.{get_or-take, length-take-le}
use Rattle.std.proofs.lemmas.List.Sums.{count_by_more_yes, count_by_more_no}
use Rattle.std.proofs.lemmas.Str.{IsCharBoundary-after_ascii, IsCharBoundary-past_char, len_utf8_bounds}
use Rattle.tui_browse_run.proofs.Counting.{feeds_yes}
use Rattle.tui_browse_run.specs.Cuts.{AreWholeLines}
use Rattle.tui_browse_run.specs.Pieces.{IsPieceEnd, Fits, FitsChars, FitsLines, line_feeds, is_line_feed}

-- a longer prefix has at least as many line feeds
one_more : (text : List ℕ) (n : ℕ) (b : Bool) → is_line_feed (get_or text n 0) ≡ b → n < length text → line_feeds (take n text) ≤ line_feeds (take (n + 1) text)
one_more text n true e within = let more = count_by_more_yes is_line_feed text n 0 within e in omega arith
one_more text n false e within = let same = count_by_more_no is_line_feed text n 0 within e in omega arith

some_more : (text : List ℕ) (n j : ℕ) → n + j ≤ length text → line_feeds (take n text) ≤ line_feeds (take (n + j) text)
some_more text n zero within = let same : n + zero ≡ n = omega arith in rw same (omega arith)
some_more text n (suc j) within =
    let next : n + suc j ≡ n + j + 1 = omega arith in
    let before = some_more text n j (omega arith) in
    let last = one_more text (n + j) (is_line_feed (get_or text (n + j) 0)) refl (omega arith) in
    rw next (omega arith)

feeds_grow : (text : List ℕ) (n m : ℕ) → n ≤ m → m ≤ length text → line_feeds (take n text) ≤ line_feeds (take m text)
feeds_grow text n m le within =
    let is : n + (m - n) ≡ m = omega arith in
    subst (λ (k : ℕ). line_feeds (take n text) ≤ line_feeds (take k text)) is (some_more text n (m - n) (omega arith))

take_within : (xs : List ℕ) (n w : ℕ) → n ≤ w → take n (take w xs) ≡ take n xs
take_within xs zero w le = refl
take_within [] (suc n) zero le = refl
take_within [] (suc n) (suc w) le = refl
take_within (x ∷ xs) (suc n) zero le = absurd (omega arith)
take_within (x ∷ xs) (suc n) (suc w) le = ap (λ (ys : List ℕ). x ∷ ys) (take_within xs n w (omega arith))

-- what is counted in the first bytes of a text
pub record Window (text : List ℕ) (w n count : ℕ) : Type 0 where
  pub inside : w ≤ length text
  pub within : n ≤ w
  pub few : count ≤ 1000
  pub counted : count ≡ line_feeds (take n text)
  pub ends : 0 < n → slice_index text (n - 1) ≡ 10
  pub all : count < 1000 → line_feeds (take w text) ≡ count
  pub none : count < 1000 → (k : ℕ) → n ≤ k → k < w → slice_index text k ≢ 10

pub window_of : (text : List ℕ) (w n count : ℕ) → w ≤ length text → AreWholeLines (take w text) n count → Window text w n count
window_of text w n count inside lines =
    let len : length (take w text) ≡ w = length-take-le w text inside in
    let within : n ≤ w = let le = lines.within in omega (arith, len) in
    record {
      inside = inside;
      within = within;
      few = lines.few;
      counted = lines.counted ∙ ap line_feeds (take_within text n w within);
      ends = λ some. sym (get_or-take w text (n - 1) 0 (omega arith)) ∙ lines.ends some;
      all = lines.all;
      none = λ below k from to. subst (λ (b : ℕ). b ≢ 10) (get_or-take w text k 0 to) (lines.none below k from (omega (arith, len)));
    }

-- if the most lines are counted, they are not empty
pub full_some : (text : List ℕ) (w n count : ℕ) → Window text w n count → count ≡ 1000 → 0 < n
full_some text w zero count h full = let is = h.counted in absurd (omega arith)
full_some text w (suc n) count h full = omega arith

-- a character begins after a line feed
pub boundary_after_line_feed : (text : List ℕ) (w n count : ℕ) → Window text w n count → IsUtf8 text → 0 < n → IsCharBoundary text n
boundary_after_line_feed text w n count h utf8 some =
    let place : n - 1 + 1 ≡ n = omega (arith, some) in
    let inside = h.inside in
    let within = h.within in
    let feed : slice_index text (n - 1) < 128 = let is = h.ends some in omega arith in
    subst (IsCharBoundary text) place (IsCharBoundary-after_ascii text (n - 1) utf8 (omega (arith, some)) feed)

-- whole lines, as many as a piece may have
pub full_piece : (text : List ℕ) (w n count : ℕ) → Window text w n count → w ≤ 65536 → count ≡ 1000 → IsPieceEnd text n
full_piece text w n count h short full = inl (record { holds = record { fits = fits; ends = inl (h.ends some) }; greatest = greatest })
  where
    some : 0 < n
    some = full_some text w n count h full

    last : line_feeds (take n text) ≡ line_feeds (take (n - 1) text) + 1
    last =
        let place : n - 1 + 1 ≡ n = omega (arith, some) in
        let inside = h.inside in
        let within = h.within in
        subst (λ (k : ℕ). line_feeds (take k text) ≡ line_feeds (take (n - 1) text) + 1) place (feeds_yes text (n - 1) (omega (arith, some)) (h.ends some))

    fits : Fits text n
    fits =
        let inside = h.inside in
        let within = h.within in
        let is = h.counted in
        record { some = some; within = omega arith; few = omega (arith, last); short = omega arith }

    greatest : (m : ℕ) → FitsLines text m → m ≤ n
    greatest m f = elim (cases_lt n m) [
      | inl more ↦
          let few = f.fits.few in
          let within = f.fits.within in
          let is = h.counted in
          let grow = feeds_grow text n (m - 1) (omega arith) (omega arith) in
          absurd (omega arith)
      | inr over ↦ over
    ]

-- no longer piece ends with a line
no_longer : (text : List ℕ) (w n count : ℕ) → Window text w n count → count < 1000 → w ≡ 65536 → w < length text → (m : ℕ) → FitsLines text m → m ≤ n
no_longer text w n count h below most less m f = elim (cases_lt n m) [
  | inr over ↦ over
  | inl more ↦
      let short = f.fits.short in
      elim f.ends [
        | inl feed ↦ absurd (h.none below (m - 1) (omega arith) (omega arith) feed)
        | inr end ↦ absurd (omega arith)
      ]
]

-- whole lines, fewer than a piece may have
pub whole_piece : (text : List ℕ) (w n count : ℕ) → Window text w n count → count < 1000 → w ≡ 65536 → w < length text → 0 < n → IsPieceEnd text n
whole_piece text w n count h below most less some =
    let inside = h.inside in
    let within = h.within in
    let is = h.counted in
    let grow = feeds_grow text (n - 1) n (omega arith) (omega arith) in
    inl (record {
      holds = record { fits = record { some = some; within = omega arith; few = omega arith; short = omega arith }; ends = inl (h.ends some) };
      greatest = no_longer text w n count h below most less;
    })

-- a text's first character ends within its first four bytes
first_char : (text : List ℕ) → IsUtf8 text → 0 < length text → (n : ℕ) × (0 < n) × (n ≤ 4) × IsCharBoundary text n
first_char text ([], (scalars, is)) some = absurd (omega (arith, ap length is))
first_char text (c ∷ cs, (scalars, is)) some =
    let bounds = len_utf8_bounds c in
    let none : 0 + len_utf8 c ≡ len_utf8 c = omega arith in
    let past = IsCharBoundary-past_char text (encodes cs) 0 c (omega arith) (c ∷ cs, (scalars, is)) (sym is) in
    (len_utf8 c, bounds.0, bounds.1, subst (IsCharBoundary text) none past)

-- a cut within a line
pub cut_piece : (text : List ℕ) (w n count end : ℕ) → Window text w n count → count < 1000 → w ≡ 65536 → w < length text → n ≡ 0 → IsUtf8 text →
    end ≤ w → IsCharBoundary text end → ((i : ℕ) → end < i → i ≤ w → IsCharBoundary text i → ⊥) → IsPieceEnd text end
cut_piece text w n count end h below most less none utf8 within boundary nearest = inr (
  λ m f. let some = f.fits.some in let over = no_longer text w n count h below most less m f in absurd (omega arith),
  record { holds = record { fits = fits; ends = boundary }; greatest = greatest },
)
  where
    some : 0 < end
    some = elim (cases_lt 0 end) [
      | inl more ↦ more
      | inr over ↦
          let first = first_char text utf8 (omega arith) in
          absurd (nearest first.0 (let one = first.1 in omega arith) (let four = first.2 in omega arith) first.3)
    ]

    fits : Fits text end
    fits =
        let all = h.all below in
        let grow = feeds_grow text (end - 1) w (omega arith) h.inside in
        record { some = some; within = omega arith; few = omega arith; short = omega arith }

    greatest : (m : ℕ) → FitsChars text m → m ≤ end
    greatest m f = elim (cases_lt end m) [
      | inr over ↦ over
      | inl more ↦ absurd (nearest m more (let short = f.fits.short in omega arith) f.ends)
    ]

-- ---- as the code computes it

-- the window of a text
pub window : (text bytes : List ℕ) (w n count : ℕ) → bytes ≡ text → w ≡ min (length bytes) 65536 → AreWholeLines (take w bytes) n count → Window text w n count
window text bytes w n count same is lines =
    let inside : w ≤ length text = rw (sym same) (let e = is in omega arith) in
    window_of text w n count inside (subst (λ (bs : List ℕ). AreWholeLines (take w bs) n count) same lines)
