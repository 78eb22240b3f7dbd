-- After ESC [ and digits the decoder is before a mark, whatever was pending before.
use Rattle.std.proofs.Common.{◌≡◌, ◌⊎◌, inl, inr, ◌<◌, ◌≤◌, ℕ, sym, subst, ap, ◌∙◌, ◌+◌, ◌-◌, ◌*◌, min, Bool, true, false, ◌==◌, List, [], ◌∷◌, refl, if◌then◌else◌, arith}
use Rattle.std.specs.Char.{digit_value}
use Rattle.std.specs.Str.Parse.{AllDigits, IsNumeral, digits_value, digits_value_after}
use Rattle.std.proofs.lemmas.Bool.Decides.{nat_tests}
use Rattle.std.proofs.lemmas.Str.Parse.{digit_from_value}
use Rattle.tui_keys.proofs.MarkBytes.{capped, digit_is, mark_ends}
use Rattle.tui_keys.specs.declared.keys.KeyDecoder.{KeyDecoder}
use Rattle.tui_keys.specs.declared.keys.Numbers.{Numbers}
use Rattle.tui_keys.specs.declared.keys.Pending.{Pending}
use Rattle.tui_keys.specs.declared.keys.Pending.TheVariants.{Nothing, Escape, Bracket, Ss3, Console, Sequence, Opened, Answer, AnswerEscape, Character}
use Rattle.tui_keys.specs.declared.keys.Decoded.{Decoded}
use Rattle.tui_keys.specs.Events.{keys_after}
use Rattle.tui_keys.specs.Laws.{IsMark, MarksHaveBytes}
use Rattle.tui_keys.specs.Sent.{csi}
use Rattle.tui_keys.specs.Steps.{after_bracket, after_escape, after_pasted_escape, after_ss3, ground, ends_answer, in_answer, in_character, in_console, in_sequence, marked, more, pasted, stepped, waits, with_digit}

esc_pending : (q : Bool) (p : Pending) → (stepped (record { pasting = q; pending = p }) 27).keys.pending ≡ Escape
    ⊎ ((stepped (record { pasting = q; pending = p }) 27).keys.pending ≡ AnswerEscape)
unfolding stepped ground after_escape after_pasted_escape after_bracket after_ss3 in_console in_sequence in_answer ends_answer in_character marked
esc_pending true Nothing = inl refl
esc_pending true Escape = inl refl
esc_pending true Bracket = inl refl
esc_pending true Ss3 = inl refl
esc_pending true Console = inl refl
esc_pending true (Sequence n) = inl refl
esc_pending true (Opened o) = inr refl
esc_pending true Answer = inr refl
esc_pending true AnswerEscape = inl refl
esc_pending true (Character c) = inl refl
esc_pending false Nothing = inl refl
esc_pending false Escape = inl refl
esc_pending false Bracket = inl refl
esc_pending false Ss3 = inl refl
esc_pending false Console = inl refl
esc_pending false (Sequence n) = inl refl
esc_pending false (Opened o) = inr refl
esc_pending false Answer = inr refl
esc_pending false AnswerEscape = inl refl
esc_pending false (Character c) = inl refl

-- in a paste or not
abbrev in_keys : Bool → Pending → KeyDecoder
in_keys q p = record { pasting = q; pending = p }

bracket_escape : (q : Bool) → (stepped (in_keys q Escape) 91).keys.pending ≡ Bracket
unfolding stepped after_escape after_pasted_escape
bracket_escape true = refl
bracket_escape false = refl

bracket_answer : (q : Bool) → (stepped (in_keys q AnswerEscape) 91).keys.pending ≡ Bracket
unfolding stepped after_escape ends_answer
bracket_answer true = refl
bracket_answer false = refl

bracket_pending : (q : Bool) (p : Pending) → (p ≡ Escape) ⊎ (p ≡ AnswerEscape) → (stepped (in_keys q p) 91).keys.pending ≡ Bracket
bracket_pending q p is = elim is [
  | inl e ↦ subst (λ (r : Pending). (stepped (in_keys q r) 91).keys.pending ≡ Bracket) (sym e) (bracket_escape q)
  | inr e ↦ subst (λ (r : Pending). (stepped (in_keys q r) 91).keys.pending ≡ Bracket) (sym e) (bracket_answer q)
]

abbrev only : ℕ → Numbers
only f = record { first = f; second = 0; third = 0; place = 0; is_plain = true }

digit_taken : (f d : ℕ) → 48 ≤ d → d < 58 → in_sequence (only f) d ≡ waits (Sequence (only (more f (d - 48))))
unfolding in_sequence with_digit
digit_taken f d low high = grind (arith, nat_tests)

choice : (q : Bool) (s : Decoded) (p : Pending) → s ≡ waits p → (if q then pasted s else s).keys.pending ≡ p
choice true s p e = ap (λ (k : Decoded). k.keys.pending) e
choice false s p e = ap (λ (k : Decoded). k.keys.pending) e

digit_pending : (q : Bool) (f d : ℕ) → 48 ≤ d → d < 58 → (stepped (in_keys q (Sequence (only f))) d).keys.pending ≡ Sequence (only (more f (d - 48)))
unfolding stepped marked
digit_pending true f d low high =
    let some : (d == 0) ≡ false = grind (arith, nat_tests) in
    let other : (d == 126) ≡ false = grind (arith, nat_tests) in
    rw some (rw other (ap (λ (k : Decoded). k.keys.pending) (digit_taken f d low high)))
digit_pending false f d low high =
    let some : (d == 0) ≡ false = grind (arith, nat_tests) in
    let other : (d == 126) ≡ false = grind (arith, nat_tests) in
    rw some (rw other (ap (λ (k : Decoded). k.keys.pending) (digit_taken f d low high)))

first_pending : (q : Bool) (d : ℕ) → 48 ≤ d → d < 58 → (stepped (in_keys q Bracket) d).keys.pending ≡ Sequence (only (more 0 (d - 48)))
unfolding stepped after_bracket
first_pending true d low high =
    let some : (d == 0) ≡ false = grind (arith, nat_tests) in
    let other : (d == 91) ≡ false = grind (arith, nat_tests) in
    rw some (rw other (ap (λ (k : Decoded). k.keys.pending) (digit_taken 0 d low high)))
first_pending false d low high =
    let some : (d == 0) ≡ false = grind (arith, nat_tests) in
    let other : (d == 91) ≡ false = grind (arith, nat_tests) in
    rw some (rw other (ap (λ (k : Decoded). k.keys.pending) (digit_taken 0 d low high)))

-- the number after these digits, if `v` is the number so far
digits_pending : (keys : KeyDecoder) (v f : ℕ) (ds : List ℕ) → AllDigits 10 ds → keys.pending ≡ Sequence (only f) → min v 65535 ≡ f →
    (keys_after keys ds).pending ≡ Sequence (only (min (digits_value_after 10 v ds) 65535))
unfolding keys_after
digits_pending keys v f [] all is e = is ∙ ap (λ (k : ℕ). Sequence (only k)) (sym e)
digits_pending keys v f (d ∷ ds) all is e =
    let range = digit_from_value d all.0 in
    let low : 48 ≤ d = omega (arith, range.0) in
    let high : d < 58 = omega (arith, range.1) in
    let next : (stepped keys d).keys.pending ≡ Sequence (only (more f (d - 48))) =
    ap (λ (p : Pending). (stepped (in_keys keys.pasting p) d).keys.pending) is ∙ digit_pending keys.pasting f d low high in
    let count : min (v * 10 + digit_value d) 65535 ≡ more f (d - 48) =
    ap (λ (k : ℕ). min (v * 10 + k) 65535) (digit_is d low high) ∙ capped v f (d - 48) e in
    digits_pending (stepped keys d).keys (v * 10 + digit_value d) (more f (d - 48)) ds all.1 next count

numeral_pending : (keys : KeyDecoder) (ds : List ℕ) → IsNumeral 10 ds → keys.pending ≡ Bracket →
    (keys_after keys ds).pending ≡ Sequence (only (min (digits_value 10 ds) 65535))
unfolding keys_after
numeral_pending keys [] numeral is = absurd (omega (arith, numeral.0))
numeral_pending keys (d ∷ ds) numeral is =
    let range = digit_from_value d numeral.1.0 in
    let low : 48 ≤ d = omega (arith, range.0) in
    let high : d < 58 = omega (arith, range.1) in
    let next : (stepped keys d).keys.pending ≡ Sequence (only (more 0 (d - 48))) =
    ap (λ (p : Pending). (stepped (in_keys keys.pasting p) d).keys.pending) is ∙ first_pending keys.pasting d low high in
    let count : min (0 * 10 + digit_value d) 65535 ≡ more 0 (d - 48) =
    ap (λ (k : ℕ). min (0 * 10 + k) 65535) (digit_is d low high) in
    digits_pending (stepped keys d).keys (0 * 10 + digit_value d) (more 0 (d - 48)) ds numeral.1.1 next count

mark_holds : (number : ℕ) (keys : KeyDecoder) (ds : List ℕ) → number < 65535 → IsNumeral 10 ds → digits_value 10 ds ≡ number →
    IsMark number (keys_after keys (csi ds)).pending 126
unfolding keys_after
mark_holds number keys ds high numeral value =
    let escape = esc_pending keys.pasting keys.pending in
    let first = (stepped keys 27).keys in
    let bracket : (stepped first 91).keys.pending ≡ Bracket = bracket_pending first.pasting first.pending escape in
    let end = numeral_pending (stepped first 91).keys ds numeral bracket in
    let count : min (digits_value 10 ds) 65535 ≡ number = rw value (grind (arith)) in
    subst (λ (p : Pending). IsMark number p 126) (sym end) (refl, refl, count, refl)

pub marks_have_bytes : MarksHaveBytes
marks_have_bytes number low high = record {
  ends = λ bytes b all m. mark_ends number bytes b low high all m;
  stands = λ keys digits numeral value. mark_holds number keys digits high numeral value;
}
