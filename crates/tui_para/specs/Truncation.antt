-- What is still to be shown of a truncated text line, while it is read.
use Rattle.std.specs.Prelude.{List, [], if◌then◌else◌}
use Rattle.tui_text.specs.Grapheme.{Glyph, glyph_width}
use Rattle.tui_para.specs.Truncated.{fitting_prefix, left_by}
use Rattle.tui_para.specs.Wrapped.{not_wider}
use Rattle.tui_para.specs.declared.truncating.truncation.Truncation.{Truncation}

-- what is shown of the graphemes to come: nothing after one that didn't fit, otherwise what fits of those that the
-- offset leaves
abbrev pub shown_of : Truncation → List Glyph → List Glyph
shown_of truncation glyphs =
    if truncation.full then []
    else fitting_prefix glyph_width truncation.room (left_by glyph_width truncation.offset (not_wider glyph_width truncation.width glyphs))
