-- The symbols that are shown.
use Rattle.std.proofs.Common.{◌≡◌, ℕ, ◌<◌, ◌≤◌, true, false, ◌&&◌, ◌||◌, List, [], ◌∷◌, length, refl, sym, ap, ◌∙◌, inl, inr, arith, rules}
use Rattle.std.specs.Prelude.{nat_le, Option, None, Some}
use Rattle.std.specs.Str.{chars}
use Rattle.std.proofs.lemmas.Str.{chars-IsAscii, chars-nil}
use Rattle.std.proofs.lemmas.Bool.{and_parts, cond-true, cond-false, leb-true, or_cases, true≢false}
use Rattle.unicode_width.proofs.Rules.{str_width-printable}
use Rattle.tui_cells.specs.Cell.{Look, space}
use Rattle.tui_clusters.specs.Width.{width_of, columns_of}
use Rattle.tui_text.specs.Visible.{step_of}
use Rattle.tui_terminal_model.specs.declared.widths.KnownWidths.{KnownWidths}
use Rattle.tui_terminal_model.specs.declared.widths.KnownWidths.TheVariants.{Common, Ascii}
use Rattle.tui_terminal_model.specs.Pieces.{Cover, blanked, covered, seen}
use Rattle.tui_terminal_model.specs.Symbols.{has_columns, is_ascii, is_common, is_ended, is_led, is_quiet, is_sendable, has_known_width}
use Rattle.tui_terminal_model.specs.Terminal.{reach}

-- a space takes one column
pub blank_step : step_of space ≡ 1
unfolding step_of width_of columns_of
blank_step =
    let as_is : chars space ≡ space = chars-IsAscii space (search (rules, arith)) in
    rw (as_is, str_width-printable false space refl) refl

pub blank_known_width : (widths : KnownWidths) → has_known_width widths space ≡ true
unfolding is_ascii is_common
blank_known_width Common = refl
blank_known_width Ascii = refl

pub blank_quiet : is_quiet space ≡ true
unfolding is_quiet
blank_quiet = refl

-- a symbol that may be sent
pub record Sendable (widths : KnownWidths) (room : ℕ) (s : List ℕ) : Type 0 where
  pub some : 0 < length s
  pub quiet : is_quiet s ≡ true
  pub fits : step_of s ≤ room
  pub reaches : has_known_width widths s ≡ false → reach s ≤ room

some_known_width : (widths : KnownWidths) (s : List ℕ) → has_known_width widths s ≡ true → 0 < length s
unfolding is_ascii is_common
some_known_width Common [] e = absurd (true≢false (sym e))
some_known_width Ascii [] e = absurd (true≢false (sym e))
some_known_width widths (b ∷ bs) e = omega arith

some_led : (s : List ℕ) → is_led s ≡ true → 0 < length s
unfolding is_led
some_led [] e = absurd (true≢false (sym (sym (ap has_columns chars-nil) ∙ e)))
some_led (b ∷ bs) e = omega arith

pub parts_of : (widths : KnownWidths) (room : ℕ) (s : List ℕ) → is_sendable widths room s ≡ true → Sendable widths room s
unfolding is_sendable
parts_of widths room s e =
    let both = and_parts (is_quiet s && nat_le (step_of s) room) (has_known_width widths s || ((is_led s && is_ended s) && nat_le (reach s) room)) e in
    let first = and_parts (is_quiet s) (nat_le (step_of s) room) both.0 in
    record {
      some = elim (or_cases (has_known_width widths s) ((is_led s && is_ended s) && nat_le (reach s) room) both.1) [
        | inl known_width ↦ some_known_width widths s known_width
        | inr other ↦ some_led s (and_parts (is_led s) (is_ended s) (and_parts (is_led s && is_ended s) (nat_le (reach s) room) other).0).0
      ];
      quiet = first.0;
      fits = leb-true (step_of s) room first.1;
      reaches = λ uncertain. elim (or_cases (has_known_width widths s) ((is_led s && is_ended s) && nat_le (reach s) room) both.1) [
        | inl known_width ↦ absurd (true≢false (sym known_width ∙ uncertain))
        | inr fits ↦ leb-true (reach s) room (and_parts (is_led s && is_ended s) (nat_le (reach s) room) fits).1
      ];
    }

-- what shows in place of a cell, and what covers the cells after it
pub seen_true : (widths : KnownWidths) (room : ℕ) (c : Look) → is_sendable widths room c.symbol ≡ true → seen widths room c ≡ c
unfolding seen
seen_true widths room c e = cond-true (is_sendable widths room c.symbol) c (blanked c) e

pub seen_false : (widths : KnownWidths) (room : ℕ) (c : Look) → is_sendable widths room c.symbol ≡ false → seen widths room c ≡ blanked c
unfolding seen
seen_false widths room c e = cond-false (is_sendable widths room c.symbol) c (blanked c) e

abbrev pub under : ℕ → Option Look → Cover
under left blank = record { left = left; blank = blank }

pub covered_true : (widths : KnownWidths) (room : ℕ) (c : Look) → is_sendable widths room c.symbol ≡ true → covered widths room c ≡ under (covered widths room c).left None
unfolding covered
covered_true widths room c e = λ i. under (covered widths room c).left (cond-true (is_sendable widths room c.symbol) None (Some (blanked c)) e i)

pub covered_false : (widths : KnownWidths) (room : ℕ) (c : Look) → is_sendable widths room c.symbol ≡ false → covered widths room c ≡ under (covered widths room c).left (Some (blanked c))
unfolding covered
covered_false widths room c e = λ i. under (covered widths room c).left (cond-false (is_sendable widths room c.symbol) None (Some (blanked c)) e i)
