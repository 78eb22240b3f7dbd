-- What shows in place of a cell.
use Rattle.std.proofs.Common.{◌≡◌, ℕ, zero, suc, ◌-◌, ◌<◌, ◌≤◌, ◌==◌, min, Bool, true, false, List, sym, ap, ◌∙◌, arith, [], ◌∷◌, ◌&&◌, ◌||◌, refl}
use Rattle.std.specs.Prelude.{nat_le, Option, None, Some}
use Rattle.std.proofs.lemmas.Bool.{and_from, and_parts, cond-true, cond-false, leb-true, true≢false}
use Rattle.std.proofs.lemmas.Bool.Decides.{nat_tests}
use Rattle.tui_cells.specs.Attributes.{look_of}
use Rattle.tui_cells.specs.Cell.{Look, space}
use Rattle.tui_cells.specs.declared.attributes.Attributes.{Attributes}
use Rattle.tui_text.specs.Visible.{step_of}
use Rattle.tui_terminal_model.specs.declared.widths.KnownWidths.{KnownWidths}
use Rattle.tui_terminal_model.specs.Pieces.{Cover, blanked, covered, next_cover, seen, shown}
use Rattle.tui_terminal_model.specs.declared.widths.KnownWidths.TheVariants.{Common, Ascii}
use Rattle.tui_terminal_model.specs.Symbols.{is_ascii, is_common, is_ended, is_led, is_quiet, is_sendable, has_known_width}
use Rattle.tui_terminal_model.specs.Terminal.{reach}
use Rattle.tui_terminal.proofs.Bytes.{one_byte}
use Rattle.tui_terminal_laws.proofs.Seen.{parts_of, seen_false, seen_true}

-- ---- a symbol that may or may not be sent, as the code has read it from a cell

of_cell : (widths : KnownWidths) (room : ℕ) (s t : List ℕ) (b : Bool) (x : Bool) → s ≡ t → b ≡ is_sendable widths room s → b ≡ x → is_sendable widths room t ≡ x
of_cell widths room s t b x es is on = ap (is_sendable widths room) (sym es) ∙ (sym is ∙ on)

pub as_it_is : (widths : KnownWidths) (room : ℕ) (c : Look) (s : List ℕ) (a : Attributes) (b : Bool) → s ≡ c.symbol → look_of c.symbol a ≡ c →
    b ≡ is_sendable widths room s → b ≡ true → Some (look_of s a) ≡ Some (seen widths room c)
as_it_is widths room c s a b es ea is on =
    let same : look_of s a ≡ c = ap (λ (k : List ℕ). look_of k a) es ∙ ea in
    ap Some (same ∙ sym (seen_true widths room c (of_cell widths room s c.symbol b true es is on)))

pub as_blank : (widths : KnownWidths) (room : ℕ) (c : Look) (s : List ℕ) (a : Attributes) (b : Bool) → s ≡ c.symbol → look_of c.symbol a ≡ c →
    b ≡ is_sendable widths room s → b ≡ false → Some (look_of space a) ≡ Some (seen widths room c)
as_blank widths room c s a b es ea is off =
    let same : look_of space a ≡ blanked c = λ i. record { symbol = space; fg = (ea i).fg; bg = (ea i).bg; modifier = (ea i).modifier } in
    ap Some (same ∙ sym (seen_false widths room c (of_cell widths room s c.symbol b false es is off)))

abbrev under : ℕ → Option Look → Cover
under left blank = record { left = left; blank = blank }

pub cover_as_it_is : (widths : KnownWidths) (room : ℕ) (c : Look) (s : List ℕ) (n : ℕ) (b : Bool) → s ≡ c.symbol → n ≡ min (step_of s) room - 1 →
    b ≡ is_sendable widths room s → b ≡ true → under n None ≡ covered widths room c
unfolding covered
cover_as_it_is widths room c s n b es en is on =
    let left : n ≡ min (step_of c.symbol) room - 1 = en ∙ ap (λ (k : List ℕ). min (step_of k) room - 1) es in
    λ i. under (left i) (sym (cond-true (is_sendable widths room c.symbol) None (Some (blanked c)) (of_cell widths room s c.symbol b true es is on)) i)

pub cover_as_blank : (widths : KnownWidths) (room : ℕ) (c : Look) (s : List ℕ) (a : Attributes) (n : ℕ) (b : Bool) → s ≡ c.symbol → look_of c.symbol a ≡ c → n ≡ min (step_of s) room - 1 →
    b ≡ is_sendable widths room s → b ≡ false → under n (Some (look_of space a)) ≡ covered widths room c
unfolding covered
cover_as_blank widths room c s a n b es ea en is off =
    let left : n ≡ min (step_of c.symbol) room - 1 = en ∙ ap (λ (k : List ℕ). min (step_of k) room - 1) es in
    let same : look_of space a ≡ blanked c = λ i. record { symbol = space; fg = (ea i).fg; bg = (ea i).bg; modifier = (ea i).modifier } in
    let blank = ap Some same ∙ sym (cond-false (is_sendable widths room c.symbol) None (Some (blanked c)) (of_cell widths room s c.symbol b false es is off)) in
    λ i. under (left i) (blank i)

pub fits_as_it_is : (widths : KnownWidths) (room : ℕ) (s : List ℕ) (b : Bool) → b ≡ is_sendable widths room s → b ≡ true → step_of s ≤ room
fits_as_it_is widths room s b is on = (parts_of widths room s (sym is ∙ on)).fits

-- from the values that the code has computed for the symbol
pub sendable_is : (widths : KnownWidths) (room : ℕ) (s : List ℕ) (n : ℕ) (t b : Bool) →
    b ≡ ((is_quiet s && nat_le n room) && (t || ((is_led s && is_ended s) && nat_le (reach s) room))) → n ≡ step_of s → t ≡ has_known_width widths s → b ≡ is_sendable widths room s
unfolding is_sendable
sendable_is widths room s n t b e en et =
    e ∙ (λ j. (is_quiet s && nat_le (en j) room) && (et j || ((is_led s && is_ended s) && nat_le (reach s) room)))

-- ---- what covers the cell

pub not_open : (n : ℕ) → (n == 0) ≡ false → 0 < n
not_open zero e = absurd (true≢false e)
not_open (suc n) e = omega arith

pub shown_open : (widths : KnownWidths) (u : Cover) (room : ℕ) (c : Look) → (u.left == 0) ≡ true → Some (seen widths room c) ≡ shown widths u room c
unfolding shown
shown_open widths u room c e = sym (cond-true (u.left == 0) (Some (seen widths room c)) u.blank e)

pub shown_under : (widths : KnownWidths) (u : Cover) (room : ℕ) (c : Look) → (u.left == 0) ≡ false → u.blank ≡ shown widths u room c
unfolding shown
shown_under widths u room c e = sym (cond-false (u.left == 0) (Some (seen widths room c)) u.blank e)

pub next_open : (widths : KnownWidths) (u : Cover) (room : ℕ) (c : Look) → (u.left == 0) ≡ true → covered widths room c ≡ next_cover widths u room c
unfolding next_cover
next_open widths u room c e = sym (cond-true (u.left == 0) (covered widths room c) (record u { left = u.left - 1 }) e)

pub next_under : (widths : KnownWidths) (u : Cover) (room : ℕ) (c : Look) → (u.left == 0) ≡ false → under (u.left - 1) u.blank ≡ next_cover widths u room c
unfolding next_cover
next_under widths u room c e = sym (cond-false (u.left == 0) (covered widths room c) (record u { left = u.left - 1 }) e)

-- ---- a printable byte

pub record IsByte (s : List ℕ) (b : ℕ) : Type 0 where
  pub is : s ≡ b ∷ []
  pub low : 32 ≤ b
  pub high : b ≤ 126

or_false : (a : Bool) → (a || false) ≡ a
or_false true = refl
or_false false = refl

byte_of : (s : List ℕ) → is_ascii s ≡ true → (b : ℕ) × IsByte s b
unfolding is_ascii
byte_of [] e = absurd (true≢false (sym e))
byte_of (b ∷ []) e =
    let both = and_parts (nat_le 32 b) (nat_le b 126) (sym (or_false (nat_le 32 b && nat_le b 126)) ∙ e) in
    (b, record { is = refl; low = leb-true 32 b both.0; high = leb-true b 126 both.1 })
byte_of (a ∷ b ∷ s) e = absurd (true≢false (sym e))

ascii_ranges : (widths : KnownWidths) (s : List ℕ) (b : ℕ) → s ≡ b ∷ [] → is_ascii s ≡ true → has_known_width widths s ≡ true
unfolding is_ascii is_common
ascii_ranges Common s b is e = ap is_common is ∙ (sym (ap is_ascii is) ∙ e)
ascii_ranges Ascii s b is e = e

byte_quiet : (b : ℕ) → 32 ≤ b → b ≤ 126 → is_quiet (b ∷ []) ≡ true
unfolding is_quiet
byte_quiet b low high = grind (arith, nat_tests)

pub ascii_quiet : (s : List ℕ) → is_ascii s ≡ true → is_quiet s ≡ true
ascii_quiet s e = let b = byte_of s e in ap is_quiet b.1.is ∙ byte_quiet b.0 b.1.low b.1.high

pub byte_steps : (s : List ℕ) → is_ascii s ≡ true → step_of s ≡ 1
byte_steps s e = let b = byte_of s e in ap step_of b.1.is ∙ one_byte b.0 b.1.low b.1.high

-- a symbol of known width may be sent if it fits
pub known_width_sendable : (widths : KnownWidths) (room : ℕ) (s : List ℕ) → has_known_width widths s ≡ true → is_quiet s ≡ true → step_of s ≤ room → is_sendable widths room s ≡ true
unfolding is_sendable
known_width_sendable widths room s known_width quiet le =
    let fits : nat_le (step_of s) room ≡ true = grind (arith, nat_tests) in
    let either : (has_known_width widths s || ((is_led s && is_ended s) && nat_le (reach s) room)) ≡ true = ap (λ (k : Bool). k || ((is_led s && is_ended s) && nat_le (reach s) room)) known_width in
    and_from (is_quiet s && nat_le (step_of s) room) _ (and_from (is_quiet s) _ quiet fits) either

pub byte_sendable : (widths : KnownWidths) (room : ℕ) (s : List ℕ) → 0 < room → is_ascii s ≡ true → is_sendable widths room s ≡ true
byte_sendable widths room s some e =
    let b = byte_of s e in let step = byte_steps s e in known_width_sendable widths room s (ascii_ranges widths s b.0 b.1.is e) (ascii_quiet s e) (omega (arith, some, step))

pub byte_shown : (widths : KnownWidths) (room : ℕ) (c : Look) (s : List ℕ) (a : Attributes) → 0 < room → s ≡ c.symbol → look_of c.symbol a ≡ c → is_ascii s ≡ true →
    Some (look_of s a) ≡ Some (seen widths room c)
byte_shown widths room c s a some es ea e = as_it_is widths room c s a true es ea (sym (byte_sendable widths room s some e)) refl

pub byte_covers : (widths : KnownWidths) (room : ℕ) (c : Look) (s : List ℕ) → 0 < room → s ≡ c.symbol → is_ascii s ≡ true → under 0 None ≡ covered widths room c
byte_covers widths room c s some es e =
    let step = byte_steps s e in
    let none : 0 ≡ min (step_of s) room - 1 = omega (arith, step) in
    cover_as_it_is widths room c s 0 true es none (sym (byte_sendable widths room s some e)) refl

-- a cell with such a symbol, if nothing covers it
pub byte_known_width : (widths : KnownWidths) (s : List ℕ) → is_ascii s ≡ true → has_known_width widths s ≡ true
byte_known_width widths s e = let b = byte_of s e in ascii_ranges widths s b.0 b.1.is e
