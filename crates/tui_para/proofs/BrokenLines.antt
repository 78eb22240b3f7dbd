-- Where a line is broken, searched backwards from the grapheme that doesn't fit.
use Rattle.std.proofs.Common.{◌≡◌, ℕ, zero, suc, ◌+◌, ◌-◌, ◌<◌, ◌≤◌, List, [], ◌∷◌, ◌++◌, length, get_or, take, drop, Bool, true, false, cond, refl, sym, ap, ◌∙◌, arith, ⊎_elim}
use Rattle.std.specs.Prelude.{◌⊎◌, not, ◌&&◌, nat_le, nat_lt}
use Rattle.std.proofs.lemmas.Bool.{cond-true, cond-false, le-leb, lt-leb}
use Rattle.std.proofs.lemmas.List.{drop_more, length-take-le, take_more}
use Rattle.tui_para.specs.Places.{broken_len, goes_on_for, pieces_len}
use Rattle.tui_para.specs.Wrapped.{ends_in, no_blank}

module _ {A : Type 0} (ends blank : A → Bool) (size : A → ℕ) where
  -- whether a word is under way after these graphemes, and where their last piece that has ended ends
  abbrev pub in_word : List A → Bool
  in_word xs = ends_in (no_blank blank) false xs

  abbrev pub ended : List A → ℕ
  ended xs = pieces_len ends blank false 0 0 xs

  word_push : (so_far : Bool) (xs : List A) (x : A) → ends_in (no_blank blank) so_far (xs ++ x ∷ []) ≡ not (blank x)
  word_push so_far [] x = refl
  word_push so_far (y ∷ xs) x = word_push (not (blank y)) xs x

  pieces_push : (word : Bool) (pieces n : ℕ) (xs : List A) (x : A) →
      pieces_len ends blank word pieces n (xs ++ x ∷ []) ≡ cond (ends_in (no_blank blank) word xs && ends x) (n + length xs) (pieces_len ends blank word pieces n xs)
  pieces_push word pieces n [] x =
      let e : n ≡ n + 0 = omega arith in
      ap (λ k. cond (word && ends x) k pieces) e
  pieces_push word pieces n (y ∷ xs) x =
      let next = cond (word && ends y) n pieces in
      let e : suc n + length xs ≡ n + suc (length xs) = omega arith in
      pieces_push (not (blank y)) next (suc n) xs x
      ∙ ap (λ k. cond (ends_in (no_blank blank) (not (blank y)) xs && ends x) k (pieces_len ends blank (not (blank y)) next (suc n) xs)) e

  module _ (xs : List A) (i : ℕ) (d : A) (near : i < length xs) where
    abbrev x : A
    x = get_or xs i d

    pub word_at : in_word (take (i + 1) xs) ≡ not (blank x)
    word_at = ap in_word (take_more xs i d near) ∙ word_push false (take i xs) x

    pub ended_at : ended (take (i + 1) xs) ≡ cond (in_word (take i xs) && ends x) i (ended (take i xs))
    ended_at =
        let long : 0 + length (take i xs) ≡ i = let e = length-take-le i xs (omega arith) in omega arith in
        ap ended (take_more xs i d near) ∙ (pieces_push false 0 0 (take i xs) x ∙ ap (λ k. cond (in_word (take i xs) && ends x) k (ended (take i xs))) long)

    -- if the grapheme fits, the line goes on
    pub fits_at : (room : ℕ) → size x ≤ room →
        goes_on_for ends blank size (in_word (take (i + 1) xs)) (ended (take (i + 1) xs)) (i + 1) (room - size x) (drop (i + 1) xs)
        ≡ goes_on_for ends blank size (in_word (take i xs)) (ended (take i xs)) i room (drop i xs)
    fits_at room fits =
        let rest = drop (i + 1) xs in
        let next = cond (in_word (take i xs) && ends x) i (ended (take i xs)) in
        let one : i + 1 ≡ suc i = omega arith in
        let on = goes_on_for ends blank size (not (blank x)) next (suc i) (room - size x) rest in
        ap (λ w. goes_on_for ends blank size w (ended (take (i + 1) xs)) (i + 1) (room - size x) rest) word_at
        ∙ (ap (λ k. goes_on_for ends blank size (not (blank x)) k (i + 1) (room - size x) rest) ended_at
        ∙ (ap (λ k. goes_on_for ends blank size (not (blank x)) next k (room - size x) rest) one
        ∙ (sym (cond-true (nat_le (size x) room) on (cond (nat_lt 0 next) next i) (le-leb (size x) room fits))
        ∙ sym (ap (goes_on_for ends blank size (in_word (take i xs)) (ended (take i xs)) i room) (drop_more xs i d near)))))

    -- if it doesn't fit, the line is broken
    pub breaks_at : (room : ℕ) → room < size x → broken_len ends blank i xs ≡ goes_on_for ends blank size (in_word (take i xs)) (ended (take i xs)) i room (drop i xs)
    breaks_at room wide =
        let next = cond (in_word (take i xs) && ends x) i (ended (take i xs)) in
        let on = goes_on_for ends blank size (not (blank x)) next (suc i) (room - size x) (drop (i + 1) xs) in
        ap (λ k. cond (nat_lt 0 k) k i) ended_at
        ∙ (sym (cond-false (nat_le (size x) room) on (cond (nat_lt 0 next) next i) (lt-leb (size x) room wide))
        ∙ sym (ap (goes_on_for ends blank size (in_word (take i xs)) (ended (take i xs)) i room) (drop_more xs i d near)))

  -- whether a piece has ended at an index depends only on the grapheme before it and the one at it
  pub piece_ends : (xs : List A) (place : ℕ) (d : A) → 0 < place → place < length xs →
      ended (take (place + 1) xs) ≡ cond (not (blank (get_or xs (place - 1) d)) && ends (get_or xs place d)) place (ended (take place xs))
  piece_ends xs place d some near =
      let one : place ≡ place - 1 + 1 = omega arith in
      let word : in_word (take place xs) ≡ not (blank (get_or xs (place - 1) d)) = ap (λ k. in_word (take k xs)) one ∙ word_at xs (place - 1) d (omega arith) in
      ended_at xs place d near ∙ ap (λ w. cond (w && ends (get_or xs place d)) place (ended (take place xs))) word

  pub found_end : (xs : List A) (n place : ℕ) → 0 < place → ended (take (n + 1) xs) ≡ place → place ≡ broken_len ends blank n xs
  found_end xs n place some e = sym (ap (λ k. cond (nat_lt 0 k) k n) e ∙ cond-true (nat_lt 0 place) place n (grind arith))

  and_false : (b : Bool) → (b && false) ≡ false
  and_false true = refl
  and_false false = refl

  -- an element within the list doesn't depend on the default for those past its end
  get_or_any : (xs : List A) (i : ℕ) (d e : A) → i < length xs → get_or xs i d ≡ get_or xs i e
  get_or_any [] i d e near = absurd (omega arith)
  get_or_any (x ∷ xs) zero d e near = refl
  get_or_any (x ∷ xs) (suc i) d e near = get_or_any xs i d e (omega arith)

  -- searching backwards from an index: a piece ends there, or the search goes on before it
  module _ (xs : List A) (n place : ℕ) (d e : A) (some : 0 < place) (near : place < length xs) where
    pub ends_there : ends (get_or xs place d) ≡ true → blank (get_or xs (place - 1) e) ≡ false → ended (take (place + 1) xs) ≡ ended (take (n + 1) xs) → place ≡ broken_len ends blank n xs
    ends_there there before all =
        let both : (not (blank (get_or xs (place - 1) e)) && ends (get_or xs place e)) ≡ true = ap (λ b. not b && ends (get_or xs place e)) before ∙ (ap ends (get_or_any xs place e d near) ∙ there) in
        found_end xs n place some (sym all ∙ (piece_ends xs place e some near ∙ cond-true (not (blank (get_or xs (place - 1) e)) && ends (get_or xs place e)) place (ended (take place xs)) both))

    pub none_there : (ends (get_or xs place d) ≡ false) ⊎ (blank (get_or xs (place - 1) e) ≡ true) → ended (take (place + 1) xs) ≡ ended (take (n + 1) xs) →
        (k : ℕ) → k ≡ place → ended (take k xs) ≡ ended (take (n + 1) xs)
    none_there h all k is =
        let test = not (blank (get_or xs (place - 1) e)) && ends (get_or xs place e) in
        let none : test ≡ false = ⊎_elim
        (λ t. ap (λ b. not (blank (get_or xs (place - 1) e)) && b) (ap ends (get_or_any xs place e d near) ∙ t) ∙ and_false (not (blank (get_or xs (place - 1) e))))
        (λ t. ap (λ b. not b && ends (get_or xs place e)) t) h in
        ap (λ j. ended (take j xs)) is ∙ (sym (piece_ends xs place e some near ∙ cond-false test place (ended (take place xs)) none) ∙ all)
