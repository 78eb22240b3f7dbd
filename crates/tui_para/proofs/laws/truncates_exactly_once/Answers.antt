use Rattle.tui_text.specs.Grapheme.{glyph_width}
use Rattle.tui_para.proofs.TruncatedOnce.{truncates_once}
use Rattle.tui_para.proofs.laws.truncates_exactly_once.Goals as goal

pub returns : goal.returns
returns c = λ w offset left graphemes. truncates_once glyph_width w left offset graphemes
