-- Symbols of known width that take one column.
use Rattle.std.proofs.Common.{◌≡◌, ℕ, ◌+◌, ◌-◌, ◌*◌, ◌<◌, ◌≤◌, ◌==◌, min, Bool, true, false, ◌&&◌, List, [], ◌∷◌, inl, inr, refl, sym, ap, ◌∙◌, arith}
use Rattle.std.specs.Prelude.{nat_le, Some}
use Rattle.std.specs.List.{list_all}
use Rattle.std.proofs.lemmas.Bool.{and_from, and_parts, or_cases, true≢false}
use Rattle.std.proofs.lemmas.Bool.Decides.{nat_tests}
use Rattle.tui_cells.specs.Cell.{Look}
use Rattle.tui_text.specs.Visible.{step_of}
use Rattle.tui_terminal_model.specs.declared.widths.KnownWidths.{KnownWidths}
use Rattle.tui_terminal_model.specs.declared.widths.KnownWidths.TheVariants.{Common, Ascii}
use Rattle.tui_terminal_model.specs.Pieces.{next_cover, shown, uncovered}
use Rattle.tui_terminal_model.specs.Symbols.{Range, is_among, is_ascii, is_common, is_quiet, is_quiet_byte, is_sendable, is_tail, has_known_width, three_byte_ranges, two_byte_ranges}
use Rattle.tui_terminal_laws.proofs.Seen.{seen_true}
use Rattle.tui_terminal.specs.Narrow.{is_narrow}
use Rattle.tui_terminal.proofs.Looks.{ascii_quiet, byte_steps, byte_known_width, cover_as_it_is, next_open, shown_open, known_width_sendable}

-- ---- a symbol of known width holds no control character

-- a number within ranges that all begin at or above another number
above : (m : ℕ) (rs : List Range) (c : ℕ) → list_all (λ (r : Range). nat_le m r.from) rs ≡ true → is_among rs c ≡ true → m ≤ c
above m [] c begins among = absurd (true≢false (sym among))
above m (r ∷ rs) c begins among =
    let both = and_parts (nat_le m r.from) (list_all (λ (r : Range). nat_le m r.from) rs) begins in
    elim (or_cases (nat_le r.from c && nat_le c r.to) (is_among rs c) among) [
      | inl here ↦ (let low = and_parts (nat_le r.from c) (nat_le c r.to) here in let begin = both.0 in let up = low.0 in grind (arith, nat_tests))
      | inr there ↦ above m rs c both.1 there
    ]

is_number : (n m : ℕ) → (n == m) ≡ true → n ≡ m
is_number n m e = grind (arith, nat_tests)

high_quiet : (after : Bool) (b : ℕ) → 0x80 ≤ b → (after ≡ true → 0xA0 ≤ b) → is_quiet_byte after b ≡ true
high_quiet true b high past = let more = past refl in grind (arith, nat_tests)
high_quiet false b high past = grind (arith, nat_tests)

tail_high : (b : ℕ) → is_tail b ≡ true → (0x80 ≤ b) × (b ≤ 0xBF)
tail_high b e = let both = and_parts (nat_le 0x80 b) (nat_le b 0xBF) e in let low = both.0 in let high = both.1 in (grind (arith, nat_tests), grind (arith, nat_tests))

at_least : (m n : ℕ) → nat_le m n ≡ true → m ≤ n
at_least m n e = grind (arith, nat_tests)

two_quiet : (a b : ℕ) → ((is_tail b && nat_le 0xC0 a) && is_among two_byte_ranges (64 * (a - 0xC0) + (b - 0x80))) ≡ true → is_quiet (a ∷ b ∷ []) ≡ true
unfolding is_quiet
two_quiet a b e =
    let both = and_parts (is_tail b && nat_le 0xC0 a) (is_among two_byte_ranges (64 * (a - 0xC0) + (b - 0x80))) e in
    let first = and_parts (is_tail b) (nat_le 0xC0 a) both.0 in
    let tail = tail_high b first.0 in
    let lead = at_least 0xC0 a first.1 in
    let code = above 0xA1 two_byte_ranges (64 * (a - 0xC0) + (b - 0x80)) refl both.1 in
    and_from (is_quiet_byte false a) _ (high_quiet false a (omega (arith, lead)) (λ on. absurd (true≢false (sym on))))
    (and_from (is_quiet_byte (a == 0xC2) b) true (high_quiet (a == 0xC2) b tail.0 (λ on. let is = is_number a 0xC2 on in omega (arith, code, is, tail.0))) refl)

three_quiet : (a b c : ℕ) → ((is_tail b && is_tail c) && nat_le 0xE0 a) ≡ true → is_quiet (a ∷ b ∷ c ∷ []) ≡ true
unfolding is_quiet
three_quiet a b c e =
    let both = and_parts (is_tail b && is_tail c) (nat_le 0xE0 a) e in
    let tails = and_parts (is_tail b) (is_tail c) both.0 in
    let second = tail_high b tails.0 in
    let third = tail_high c tails.1 in
    let lead = at_least 0xE0 a both.1 in
    and_from (is_quiet_byte false a) _ (high_quiet false a (omega (arith, lead)) (λ on. absurd (true≢false (sym on))))
    (and_from (is_quiet_byte (a == 0xC2) b) _ (high_quiet (a == 0xC2) b second.0 (λ on. let is = is_number a 0xC2 on in absurd (omega (arith, lead, is))))
    (and_from (is_quiet_byte (b == 0xC2) c) true (high_quiet (b == 0xC2) c third.0 (λ on. let is = is_number b 0xC2 on in absurd (omega (arith, second.1, is)))) refl))

common_quiet : (s : List ℕ) → is_common s ≡ true → is_quiet s ≡ true
unfolding is_ascii is_common
common_quiet [] e = absurd (true≢false (sym e))
common_quiet (a ∷ []) e = ascii_quiet (a ∷ []) e
common_quiet (a ∷ b ∷ []) e = two_quiet a b e
common_quiet (a ∷ b ∷ c ∷ []) e = three_quiet a b c (and_parts ((is_tail b && is_tail c) && nat_le 0xE0 a) (is_among three_byte_ranges (4096 * (a - 0xE0) + (64 * (b - 0x80) + (c - 0x80)))) e).0
common_quiet (a ∷ b ∷ c ∷ d ∷ s) e = absurd (true≢false (sym e))

pub known_width_quiet : (widths : KnownWidths) (s : List ℕ) → has_known_width widths s ≡ true → is_quiet s ≡ true
known_width_quiet Common s e = common_quiet s e
known_width_quiet Ascii s e = ascii_quiet s e

-- ---- symbols of one column

pub narrow_known_width : (widths : KnownWidths) (s : List ℕ) → is_narrow widths s ≡ true → has_known_width widths s ≡ true
narrow_known_width widths s e = (and_parts (has_known_width widths s) (step_of s == 1) e).0

pub narrow_steps : (widths : KnownWidths) (s : List ℕ) → is_narrow widths s ≡ true → step_of s ≡ 1
narrow_steps widths s e = is_number (step_of s) 1 (and_parts (has_known_width widths s) (step_of s == 1) e).1

-- a printable byte is such a symbol
pub byte_narrow : (widths : KnownWidths) (s : List ℕ) → is_ascii s ≡ true → is_narrow widths s ≡ true
byte_narrow widths s e = and_from (has_known_width widths s) (step_of s == 1) (byte_known_width widths s e) (ap (λ (n : ℕ). n == 1) (byte_steps s e))

narrow_sendable : (widths : KnownWidths) (room : ℕ) (s : List ℕ) → 0 < room → is_narrow widths s ≡ true → is_sendable widths room s ≡ true
narrow_sendable widths room s some e = let sure = narrow_known_width widths s e in let step = narrow_steps widths s e in known_width_sendable widths room s sure (known_width_quiet widths s sure) (omega (arith, some, step))

-- a cell with such a symbol, if nothing covers it
pub narrow_seen : (widths : KnownWidths) (room : ℕ) (c : Look) → 0 < room → is_narrow widths c.symbol ≡ true → shown widths uncovered room c ≡ Some c
narrow_seen widths room c some e = sym (shown_open widths uncovered room c refl) ∙ ap Some (seen_true widths room c (narrow_sendable widths room c.symbol some e))

pub narrow_next : (widths : KnownWidths) (room : ℕ) (c : Look) → 0 < room → is_narrow widths c.symbol ≡ true → next_cover widths uncovered room c ≡ uncovered
narrow_next widths room c some e =
    let step = narrow_steps widths c.symbol e in
    let none : 0 ≡ min (step_of c.symbol) room - 1 = omega (arith, step) in
    sym (next_open widths uncovered room c refl) ∙ sym (cover_as_it_is widths room c c.symbol 0 true refl none (sym (narrow_sendable widths room c.symbol some e)) refl)
