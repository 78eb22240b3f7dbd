-- A truncated text line has exactly one line.
use Rattle.std.proofs.Common.{◌≡◌, ℕ, ◌-◌, ◌<◌, ◌≤◌, List, [], ◌∷◌, ◌++◌, length, Bool, true, false, refl, sym, ap, ◌∙◌, Some, subst, arith, ⊎_elim}
use Rattle.std.specs.Prelude.{◌≢◌, ◌⊎◌, sum_by, nat_le, nat_lt, ◌&&◌}
use Rattle.std.proofs.lemmas.List.Sums.{sum_by-cons}
use Rattle.std.proofs.lemmas.List.{length-append}
use Rattle.std.proofs.lemmas.Bool.{cases_Bool, leb-true, leb-false}
use Rattle.std.proofs.lemmas.List.{append_cancel_left}
use Rattle.std.proofs.lemmas.Bool.Decides.{nat_tests}
use Rattle.tui_text.specs.Grapheme.{Glyph, glyph_width}
use Rattle.tui_para.specs.Lines.{GlyphLine, is_left, IsTakenOf, TruncatesLine}
use Rattle.tui_para.specs.Truncated.{IsLongestPrefix, FitsIn, IsPassedBy, Truncated, fitting_prefix, left_by, truncate}
use Rattle.tui_para.specs.Wrapped.{not_wider, IsUnique}
use Rattle.tui_para.proofs.Filled.{no_cons}
use Rattle.tui_para.proofs.Unique.{prefixes}

no_shorter : {A : Type 0} (k m : List A) (y : A) (ys : List A) → k ≡ m ++ y ∷ ys → length k ≤ length m → ⊥
no_shorter k m y ys e l = let a = length-append m (y ∷ ys) in let b = ap length e in omega arith

-- a list has at most one longest prefix
same_prefix : {A : Type 0} (P : List A → Type 0) (xs front after other more : List A) → IsLongestPrefix P xs front after → IsLongestPrefix P xs other more → (front ≡ other) × (after ≡ more)
same_prefix P xs front after other more f g =
    let whole : front ++ after ≡ other ++ more = sym f.joined ∙ g.joined in
    let same : front ≡ other = ⊎_elim
    (λ s. s)
    (⊎_elim
    (λ s. absurd (no_shorter other front s.0 s.1 s.2 (f.longest other more g.joined g.holds)))
    (λ s. absurd (no_shorter front other s.0 s.1 s.2 (g.longest front after f.joined f.holds))))
    (prefixes front after other more whole) in
    (same, append_cancel_left front after more (whole ∙ ap (λ t. t ++ more) (sym same)))

nothing : {A : Type 0} (other more : List A) → [] ≡ other ++ more → length other ≤ 0
nothing [] more e = omega arith
nothing (y ∷ o) more e = absurd (no_cons y (o ++ more) e)

module _ {A : Type 0} (size : A → ℕ) where
  nothing_passed : (offset : ℕ) → IsPassedBy size offset []
  nothing_passed offset = record { fits = omega arith; needed = needed }
    where
      needed : (shorter more : List A) → [] ≡ shorter ++ more → more ≢ [] → sum_by size shorter < offset
      needed [] more e n = absurd (n (sym e))
      needed (y ∷ o) more e n = absurd (no_cons y (o ++ more) e)

  -- the graphemes that fit are the longest prefix that fits
  fitting_is : (room : ℕ) (xs : List A) → (rest : List A) × IsLongestPrefix (FitsIn size room) xs (fitting_prefix size room xs) rest
  fitting_is room [] = ([], record { joined = refl; holds = omega arith; longest = λ other more e h. nothing other more e })
  fitting_is room (x ∷ xs) = ⊎_elim
      (λ b.
      let fits = leb-true (size x) room b in
      let (rest, h) = fitting_is (room - size x) xs in
      rw b (rest, one_more room x xs (fitting_prefix size (room - size x) xs) rest fits h))
      (λ b. rw b (x ∷ xs, none room x xs (leb-false (size x) room b)))
      (cases_Bool (nat_le (size x) room))
    where
      one_more : (room : ℕ) (x : A) (xs front rest : List A) → size x ≤ room → IsLongestPrefix (FitsIn size (room - size x)) xs front rest → IsLongestPrefix (FitsIn size room) (x ∷ xs) (x ∷ front) rest
      one_more room x xs front rest fits h =
          let s = sum_by-cons size x front in
          let k = h.holds in
          record { joined = ap (λ t. x ∷ t) h.joined; holds = omega arith; longest = longest }
        where
          longest : (other more : List A) → x ∷ xs ≡ other ++ more → sum_by size other ≤ room → length other ≤ length (x ∷ front)
          longest [] more e l = omega arith
          longest (y ∷ o) more e l =
              let first : x ≡ y = cc in
              let others : xs ≡ o ++ more = cc in
              let t = sum_by-cons size y o in
              let same = ap size first in
              let less = h.longest o more others (omega arith) in
              omega arith

      none : (room : ℕ) (x : A) (xs : List A) → room < size x → IsLongestPrefix (FitsIn size room) (x ∷ xs) [] (x ∷ xs)
      none room x xs wide = record { joined = refl; holds = omega arith; longest = longest }
        where
          longest : (other more : List A) → x ∷ xs ≡ other ++ more → sum_by size other ≤ room → length other ≤ 0
          longest [] more e l = omega arith
          longest (y ∷ o) more e l =
              let first : x ≡ y = cc in
              let t = sum_by-cons size y o in
              let same = ap size first in
              absurd (omega arith)

  -- the graphemes that the offset skips are the longest prefix that it can skip
  passed_is : (offset : ℕ) (xs : List A) → (passed : List A) × IsLongestPrefix (IsPassedBy size offset) xs passed (left_by size offset xs)
  passed_is offset [] = ([], record { joined = refl; holds = nothing_passed offset; longest = λ other more e h. nothing other more e })
  passed_is offset (x ∷ xs) = ⊎_elim
      (λ b.
      let (passed, h) = passed_is (offset - size x) xs in
      rw b (x ∷ passed, one_more offset x xs passed (left_by size (offset - size x) xs) (some b) (fits b) h))
      (λ b. rw b ([], none offset x xs (stops b)))
      (cases_Bool (nat_lt 0 offset && nat_le (size x) offset))
    where
      some : (nat_lt 0 offset && nat_le (size x) offset) ≡ true → 0 < offset
      some b = grind (arith, nat_tests)

      fits : (nat_lt 0 offset && nat_le (size x) offset) ≡ true → size x ≤ offset
      fits b = grind (arith, nat_tests)

      stops : (nat_lt 0 offset && nat_le (size x) offset) ≡ false → (offset ≡ 0) ⊎ (offset < size x)
      stops b = grind (arith, nat_tests)

      one_more : (offset : ℕ) (x : A) (xs passed rest : List A) → 0 < offset → size x ≤ offset → IsLongestPrefix (IsPassedBy size (offset - size x)) xs passed rest → IsLongestPrefix (IsPassedBy size offset) (x ∷ xs) (x ∷ passed) rest
      one_more offset x xs passed rest some fits h =
          let s = sum_by-cons size x passed in
          let k = h.holds.fits in
          record { joined = ap (λ t. x ∷ t) h.joined; holds = record { fits = omega arith; needed = needed }; longest = longest }
        where
          needed : (shorter more : List A) → x ∷ passed ≡ shorter ++ more → more ≢ [] → sum_by size shorter < offset
          needed [] more e n = some
          needed (y ∷ o) more e n =
              let first : x ≡ y = cc in
              let others : passed ≡ o ++ more = cc in
              let t = sum_by-cons size y o in
              let same = ap size first in
              let less = h.holds.needed o more others n in
              omega arith

          longest : (other more : List A) → x ∷ xs ≡ other ++ more → IsPassedBy size offset other → length other ≤ length (x ∷ passed)
          longest [] more e l = omega arith
          longest (y ∷ o) more e l =
              let first : x ≡ y = cc in
              let others : xs ≡ o ++ more = cc in
              let t = sum_by-cons size y o in
              let same = ap size first in
              let room = l.fits in
              let less = h.longest o more others (record {
                fits = omega arith;
                needed = λ shorter m d n.
                    let u = sum_by-cons size y shorter in
                    let v = l.needed (y ∷ shorter) m (ap (λ k. y ∷ k) d) n in
                    omega arith;
              }) in
              omega arith

      none : (offset : ℕ) (x : A) (xs : List A) → (offset ≡ 0) ⊎ (offset < size x) → IsLongestPrefix (IsPassedBy size offset) (x ∷ xs) [] (x ∷ xs)
      none offset x xs stop = record { joined = refl; holds = nothing_passed offset; longest = longest }
        where
          longest : (other more : List A) → x ∷ xs ≡ other ++ more → IsPassedBy size offset other → length other ≤ 0
          longest [] more e l = omega arith
          longest (y ∷ o) more e l =
              let first : x ≡ y = cc in
              let t = sum_by-cons size y o in
              let same = ap size first in
              let room = l.fits in
              ⊎_elim
              (λ z. let v = l.needed [] (y ∷ o) refl (λ d. no_cons y o (sym d)) in absurd (omega arith))
              (λ z. absurd (omega arith))
              stop

  -- exactly one line
  pub truncate_is : (w : ℕ) (left : Bool) (offset : ℕ) (xs : List A) → Truncated size w left offset xs (truncate size w left offset xs)
  truncate_is w true offset xs =
      let p = passed_is offset (not_wider size w xs) in
      let f = fitting_is w (left_by size offset (not_wider size w xs)) in
      record { shown = left_by size offset (not_wider size w xs); rest = f.0; passed = p.0; passes = λ e. p.1; stays = λ e. cc; fits = f.1 }
  truncate_is w false offset xs =
      let f = fitting_is w (not_wider size w xs) in
      record { shown = not_wider size w xs; rest = f.0; passed = []; passes = λ e. cc; stays = λ e. refl; fits = f.1 }

  truncated_once : (w : ℕ) (left : Bool) (offset : ℕ) (xs line other : List A) → Truncated size w left offset xs line → Truncated size w left offset xs other → line ≡ other
  truncated_once w true offset xs line other t u =
      let shown = (same_prefix (IsPassedBy size offset) (not_wider size w xs) t.passed t.shown u.passed u.shown (t.passes refl) (u.passes refl)).1 in
      (same_prefix (FitsIn size w) u.shown line t.rest other u.rest (subst (λ s. IsLongestPrefix (FitsIn size w) s line t.rest) shown t.fits) u.fits).0
  truncated_once w false offset xs line other t u =
      let shown : t.shown ≡ u.shown = t.stays refl ∙ sym (u.stays refl) in
      (same_prefix (FitsIn size w) u.shown line t.rest other u.rest (subst (λ s. IsLongestPrefix (FitsIn size w) s line t.rest) shown t.fits) u.fits).0

  pub truncates_once : (w : ℕ) (left : Bool) (offset : ℕ) (xs : List A) → IsUnique (Truncated size w left offset xs) (truncate size w left offset xs)
  truncates_once w left offset xs =
      let is = truncate_is w left offset xs in
      record { meets = is; alone = λ other h. truncated_once w left offset xs other (truncate size w left offset xs) h is }

  -- an offset of 0 skips nothing
  pub left_by_none : (xs : List A) → left_by size 0 xs ≡ xs
  left_by_none [] = refl
  left_by_none (x ∷ xs) = refl

-- the one line of a text line
pub truncated_first : (w offset : ℕ) (t : GlyphLine) (line : List Glyph) → line ≡ truncate glyph_width w (is_left t.alignment) offset t.glyphs → IsTakenOf (Some line) (TruncatesLine w offset t) (λ parts. parts ≡ [])
truncated_first w offset t line is_shown =
    let is = truncates_once glyph_width w (is_left t.alignment) offset t.glyphs in
    record {
      yields = λ parts none. (line, subst (Truncated glyph_width w (is_left t.alignment) offset t.glyphs) (sym is_shown) is.meets, ap (λ k. line ∷ k) none);
      takes = λ parts (other, h, e). ([], e ∙ ap (λ k. k ∷ []) (is.alone other h ∙ sym is_shown), refl);
    }
