use Rattle.std.proofs.Common.{◌≡◌, ◌⊎◌, ◌<◌, ◌≤◌, ◌-◌, ℕ, true, false, List, ◌∷◌, ap, sym, inl, inr, arith}
use Rattle.std.specs.Prelude.{nat_le, nat_lt, ◌&&◌}
use Rattle.std.proofs.lemmas.Bool.Decides.{nat_tests}
use Rattle.tui_text.specs.Grapheme.{Glyph, glyph_of, glyph_width}
use Rattle.tui_para.specs.Truncation.{shown_of}
use Rattle.tui_para.specs.Truncated.{fitting_prefix}
use Rattle.tui_para.specs.Wrapped.{not_wider}
use Rattle.tui_para.specs.declared.truncating.truncation.Truncation.{Truncation}
use Rattle.tui_para.proofs.TruncatedOnce.{left_by_none}
use Rattle.tui_para.proofs.truncating.truncation.Truncation.shows.Goals.{else-self-gt0-via-then-self-gt0+else-columns-self-2, else-self-gt0-via-else-self-gt0}
use Rattle.tui_para.proofs.truncating.truncation.Truncation.shows.Goals as goal

-- a grapheme that isn't wider than a line, that the offset doesn't skip, and that fits
shown_next : (truncation : Truncation) (g : Glyph) (rest : List Glyph) (columns : ℕ) → columns ≡ glyph_width g → truncation.full ≡ false → columns ≤ truncation.width → (truncation.offset ≡ 0) ⊎ (truncation.offset < columns) → nat_lt truncation.room columns ≡ false →
    shown_of truncation (g ∷ rest) ≡ g ∷ shown_of (record { width = truncation.width; offset = 0; room = truncation.room - columns; full = nat_lt truncation.room columns }) rest
shown_next truncation g rest columns e some_room narrow stop fits =
    let kept_too : nat_le (glyph_width g) truncation.width ≡ true = grind (arith, nat_tests) in
    let not_passed : (nat_lt 0 truncation.offset && nat_le (glyph_width g) truncation.offset) ≡ false = grind (arith, nat_tests) in
    let fitting : nat_le (glyph_width g) truncation.room ≡ true = grind (arith, nat_tests) in
    rw (some_room, kept_too, not_passed, fitting, fits, e) (ap (λ k. g ∷ fitting_prefix glyph_width (truncation.room - glyph_width g) k) (sym (left_by_none glyph_width (not_wider glyph_width truncation.width rest))))

pub returns-clause-line : goal.returns-clause-line
returns-clause-line c = λ rest.
    let s = c.args.self.now in
    let columns = c.cell_width-columns.result in
    let stop : (s.offset ≡ 0) ⊎ (s.offset < columns) = elim c.else-self-gt0.branch [
      | else-self-gt0-via-then-self-gt0+else-columns-self-2 w ↦ inr w.if-columns-self-2.false
      | else-self-gt0-via-else-self-gt0 w ↦ inl (omega arith)
    ] in
    shown_next s (glyph_of c.args.grapheme.now) rest columns c.cell_width-columns.ensures c.if-self.false c.if-columns-self.false stop c.if-self-2.false
