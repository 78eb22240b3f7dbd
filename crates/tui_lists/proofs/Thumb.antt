-- The laws of the parts of a scrollbar's track.
use Rattle.std.proofs.Common.{◌≡◌, ℕ, ◌+◌, ◌-◌, ◌*◌, ◌/◌, ◌<◌, ◌≤◌, min, inl, inr, refl, ◌∙◌, ap, arith}
use Rattle.std.proofs.Math.Nat.{add-mul, div-mul-le_self, lt-div-mul-add, mul-le-mul_right, le-div_iff_mul-le}
use Rattle.std.proofs.lemmas.Bool.{cases_lt}
use Rattle.std.proofs.lemmas.Bool.Decides.{nat_tests}
use Rattle.tui_lists.specs.TrackParts.{ThumbFollows, ThumbLaws, parts_of, rounded, start_of, thumb_of, viewport_in}

-- half of b, rounded down and doubled, is b or one less
halves : (b : ℕ) → (b / 2 * 2 ≤ b) × (b < b / 2 * 2 + 2)
halves b = (div-mul-le_self b 2, lt-div-mul-add (omega arith))

-- a quotient does not decrease as the dividend grows
pub div_grows : (a c b : ℕ) → 0 < b → a ≤ c → a / b ≤ c / b
div_grows a c b some le = let h : a / b * b ≤ c = omega (arith, div-mul-le_self a b) in (le-div_iff_mul-le {k = b} {x = a / b} {y = c} some).1 h

pub rounded_grows : (a c b : ℕ) → 0 < b → a ≤ c → rounded a b ≤ rounded c b
rounded_grows a c b some le = div_grows (a + b / 2) (c + b / 2) b some (omega arith)

rounded_none : (b : ℕ) → 0 < b → rounded 0 b ≡ 0
rounded_none b some =
    let q = (0 + b / 2) / b in
    let low : q * b ≤ 0 + b / 2 = div-mul-le_self (0 + b / 2) b in
    elim (cases_lt 0 q) [
      | inl lt ↦ let one : 1 * b ≤ q * b = mul-le-mul_right b lt in omega (arith, low, one, halves b)
      | inr le ↦ omega arith
    ]

-- if two dividends add up to t times the divisor, their rounded quotients add up to at least t
rounded_whole : (x y d t : ℕ) → 0 < d → x + y ≡ t * d → t ≤ rounded x d + rounded y d
rounded_whole x y d t some e =
    let p = rounded x d in
    let q = rounded y d in
    let px : x + d / 2 < p * d + d = lt-div-mul-add some in
    let qy : y + d / 2 < q * d + d = lt-div-mul-add some in
    elim (cases_lt (p + q) t) [
      | inl lt ↦ let over : (p + q + 1) * d ≤ t * d = mul-le-mul_right d (omega arith) in
          let parts : (p + q + 1) * d ≡ p * d + q * d + 1 * d = add-mul (p + q) 1 d ∙ ap (λ (n : ℕ). n + 1 * d) (add-mul p q d) in
          omega (arith, px, qy, over, parts, e, halves d)
      | inr le ↦ le
    ]

start_first : (track viewport content : ℕ) → 0 < viewport → start_of track viewport content 0 ≡ 0
start_first track viewport content v =
    let d = content - 1 + viewport in
    let nothing : min 0 (content - 1) * track ≡ 0 = grind arith in
    let none : rounded (min 0 (content - 1) * track) d ≡ 0 = rw nothing (rounded_none d (omega arith)) in
    omega (arith, none)

start_reaches : (track viewport content position : ℕ) → 0 < track → 0 < viewport → 0 < content → content ≤ position + 1 →
    start_of track viewport content position + thumb_of track viewport content ≡ track
start_reaches track viewport content position t v c far =
    let m = content - 1 in
    let at : min position m ≡ m = omega arith in
    let both : viewport * track + m * track ≡ track * (m + viewport) = grind arith in
    let whole : track ≤ rounded (viewport * track) (m + viewport) + rounded (m * track) (m + viewport) =
    rounded_whole (viewport * track) (m * track) (m + viewport) track (omega arith) both in
    rw at (omega (arith, whole))

some_viewport : (track size viewport : ℕ) → 0 < track → track ≤ size → 0 < viewport_in size viewport
some_viewport track size viewport t s = grind (arith, nat_tests)

follows : (track size viewport content v : ℕ) → v ≡ viewport_in size viewport → 0 < track → 0 < v → 0 < content → ThumbFollows track size viewport content
unfolding parts_of
follows track size viewport content v e t some c = record {
  sum = λ position. rw (← e) (omega arith);
  some = λ position. rw (← e) (omega arith);
  first = rw (← e) (start_first track v content some);
  order = λ position later le.
      let grows = rounded_grows (min position (content - 1) * track) (min later (content - 1) * track) (content - 1 + v) (omega arith)
      (mul-le-mul_right track (omega arith)) in
      rw (← e) (omega (arith, grows));
  last = λ position far. rw (← e) (start_reaches track v content position t some c far);
}

pub thumb_laws : ThumbLaws
thumb_laws track size viewport content t le c =
    follows track size viewport content (viewport_in size viewport) refl t (some_viewport track size viewport t le) c
