use Rattle.std.proofs.Common.{◌≡◌, false, ap, ⊎_elim}
use Rattle.tui_text.specs.Grapheme.{glyph_width}
use Rattle.tui_para.specs.Lines.{is_left}
use Rattle.tui_para.specs.Truncated.{fitting_prefix}
use Rattle.tui_para.specs.Wrapped.{not_wider}
use Rattle.tui_para.proofs.TruncatedOnce.{left_by_none}
use Rattle.tui_para.proofs.truncating.truncation.Truncation.new.Goals as goal

pub returns-in-Center : goal.returns-in-Center
returns-in-Center c = λ glyphs.
    let w = c.args.width in
    let not_left : is_left c.args.alignment ≡ false = ⊎_elim (λ e. ap is_left e) (λ e. ap is_left e) c.in-Center.is in
    rw not_left (ap (fitting_prefix glyph_width w) (left_by_none glyph_width (not_wider glyph_width w glyphs)))
