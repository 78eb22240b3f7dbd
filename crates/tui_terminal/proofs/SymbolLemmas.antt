-- Symbols, byte by byte and character by character.
use Rattle.std.proofs.Common.{◌≡◌, ℕ, ◌+◌, ◌<◌, ◌≤◌, Bool, true, false, not, ◌&&◌, ◌||◌, ◌==◌, nat_le, List, [], ◌∷◌, ◌++◌, length, map, sum, get_or, take, drop, refl, sym, ap, ◌∙◌, add-one}
use Rattle.std.proofs.lemmas.Bool.{true≢false}
use Rattle.std.proofs.lemmas.List.{drop_all, map_push}
use Rattle.std.proofs.lemmas.List.Sums.{sum_by_push}
use Rattle.std.proofs.Math.Seq.{drop-cons}
use Rattle.tui_terminal_model.specs.Symbols.{Range, ends_chars, is_among, is_quiet_byte, is_quiet_from, joins_next, last_ends, three_byte_ranges}
use Rattle.tui_terminal_model.specs.Terminal.{reach_of}

-- ---- symbols without control characters

pub quiet_step : (after : Bool) (bytes : List ℕ) (i : ℕ) → i < length bytes →
    is_quiet_from after (drop i bytes) ≡ (is_quiet_byte after (get_or bytes i 0) && is_quiet_from (get_or bytes i 0 == 0xC2) (drop (i + 1) bytes))
quiet_step after bytes i lt =
    let first : drop i bytes ≡ get_or bytes i 0 ∷ drop (i + 1) bytes = rw (add-one, drop-cons bytes i 0 lt) refl in
    ap (is_quiet_from after) first

pub quiet_end : (after : Bool) (bytes : List ℕ) (i : ℕ) → length bytes ≤ i → is_quiet_from after (drop i bytes) ≡ true
quiet_end after bytes i le = ap (is_quiet_from after) (drop_all i bytes le)

-- ---- the last character

last_more : (d : ℕ) (cs : List ℕ) (c : ℕ) → last_ends d (cs ++ c ∷ []) ≡ not (is_among joins_next c)
last_more d [] c = refl
last_more d (e ∷ es) c = last_more e es c

pub ends_more : (cs : List ℕ) (c : ℕ) → ends_chars (cs ++ c ∷ []) ≡ not (is_among joins_next c)
ends_more [] c = refl
ends_more (d ∷ ds) c = last_more d ds c

-- ---- the reach

pub reach_more : (cs : List ℕ) (c : ℕ) → sum (map reach_of (cs ++ c ∷ [])) ≡ sum (map reach_of cs) + reach_of c
reach_more cs c = ap sum (map_push reach_of cs c) ∙ sum_by_push (λ x. x) (map reach_of cs) (reach_of c)

-- ---- ideographs

or_right : (a b : Bool) → b ≡ true → (a || b) ≡ true
or_right true b e = refl
or_right false b e = e

among_later : (xs ys : List Range) (r : Range) (c : ℕ) → (nat_le r.from c && nat_le c r.to) ≡ true → is_among (xs ++ r ∷ ys) c ≡ true
among_later [] ys r c e = ap (λ (b : Bool). b || is_among ys c) e
among_later (x ∷ xs) ys r c e = or_right (nat_le x.from c && nat_le c x.to) (is_among (xs ++ r ∷ ys) c) (among_later xs ys r c e)

pub ideograph_among : (c : ℕ) → (nat_le 0x4E00 c && nat_le c 0x9FD5) ≡ true → is_among three_byte_ranges c ≡ true
ideograph_among c e = among_later (take 13 three_byte_ranges) (drop 14 three_byte_ranges) (record { from = 0x4E00; to = 0x9FD5 }) c e

-- ---- which symbols may be sent

-- if symbols of known width hold no control character
pub sendable_parts : (quiet fits known_width harmless : Bool) → (known_width ≡ true → quiet ≡ true) →
    ((known_width || (quiet && harmless)) && fits) ≡ ((quiet && fits) && (known_width || harmless))
sendable_parts true true true harmless e = refl
sendable_parts true false true harmless e = refl
sendable_parts false fits true harmless e = absurd (true≢false (sym (e refl)))
sendable_parts true true false true e = refl
sendable_parts true true false false e = refl
sendable_parts true false false true e = refl
sendable_parts true false false false e = refl
sendable_parts false fits false harmless e = refl
