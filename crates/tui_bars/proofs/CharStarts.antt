-- Where characters of a text start.
use Rattle.std.proofs.Common.{◌≡◌, ℕ, zero, suc, ◌+◌, ◌-◌, ◌<◌, ◌≤◌, Bool, true, false, not, ◌&&◌, ◌||◌, nat_le, nat_lt, inl, inr, List, length, refl, sym, arith}
use Rattle.std.specs.Prelude.{slice_index}
use Rattle.std.specs.Str.{IsCharBoundary}
use Rattle.std.proofs.lemmas.Bool.{cases_lt}
use Rattle.std.proofs.lemmas.Bool.Decides.{nat_tests}
use Rattle.tui_bars.specs.HorizontalBars.{is_char_start, next_char_start, char_start_from}

yes : (len i s : ℕ) → (i < len → 128 ≤ s → 192 ≤ s) → (nat_le len i || not (nat_lt 127 s && nat_lt s 192)) ≡ true
yes len i s h = elim (cases_lt i len) [
  | inl lt ↦ elim (cases_lt s 128) [ inl low ↦ grind (arith, nat_tests) | inr high ↦ let top = h lt high in grind (arith, nat_tests) ]
  | inr le ↦ grind (arith, nat_tests)
]

other : (b : Bool) → (b ≡ true → ⊥) → b ≡ false
other true h = absurd (h refl)
other false h = refl

back : (len i s : ℕ) → (nat_le len i || not (nat_lt 127 s && nat_lt s 192)) ≡ true → i < len → 128 ≤ s → 192 ≤ s
back len i s e lt high = grind (arith, nat_tests)

next_is : (text : List ℕ) (i n k : ℕ) → i ≤ k → k ≤ i + n → IsCharBoundary text k → ((j : ℕ) → i ≤ j → j < k → IsCharBoundary text j → ⊥) → next_char_start text i n ≡ k
next_is text i zero k low high at none = omega arith
next_is text i (suc n) k low high at none = elim (cases_lt i k) [
  | inl lt ↦ let e : is_char_start text i ≡ false = other (is_char_start text i) (λ h. none i (omega arith) lt (omega (arith, at.0), back (length text) i (slice_index text i) h)) in
      rw e (next_is text (i + 1) n k (omega arith) (omega arith) at (λ j l m. none j (omega arith) m))
  | inr le ↦ let same : i ≡ k = omega arith in
      let e : is_char_start text i ≡ true = rw same (yes (length text) k (slice_index text k) at.1) in rw e same
]

pub start_is : (text : List ℕ) (place k : ℕ) → place ≤ length text → place ≤ k → IsCharBoundary text k → ((j : ℕ) → place ≤ j → j < k → IsCharBoundary text j → ⊥) → k ≡ char_start_from place text
unfolding char_start_from
start_is text place k within low at none = sym (next_is text place (length text - place) k low (omega (arith, at.0)) at none)
