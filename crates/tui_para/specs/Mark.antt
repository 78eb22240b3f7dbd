-- What wrapping needs to know of a grapheme.
use Rattle.std.specs.Prelude.{◌≡◌, ℕ, Bool, ◌||◌, List, length, map}
use Rattle.std.specs.List.{zip}
use Rattle.tui_text.specs.Grapheme.{Glyph, glyph_blank, glyph_of, glyph_width}
use Rattle.tui_text.specs.declared.grapheme.StyledGrapheme.{StyledGrapheme}
use Rattle.tui_para.specs.Rule.{Rule}
use Rattle.tui_para.specs.declared.wrap.Wrap.{Wrap}
use Rattle.tui_para.specs.declared.wrapping.mark.Mark.{Mark}

-- the mark of a grapheme, given whether its word is split before it
abbrev pub mark_of : Glyph × Bool → Mark
mark_of p = record { width = glyph_width p.0; blank = glyph_blank p.0; split = p.1 }

-- whether the grapheme is whitespace
abbrev pub is_blank : Mark → Bool
is_blank m = m.blank

-- whether its word is split before it
abbrev pub is_split : Mark → Bool
is_split m = m.split

-- whether it ends a piece of a word before it
abbrev pub ends_before : Mark → Bool
ends_before m = m.split || m.blank

-- its width, in columns
abbrev pub size_of : Mark → ℕ
size_of m = m.width

-- the rule by which marks are wrapped
abbrev pub mark_rule : ℕ → Wrap → Rule Mark
mark_rule w wrap = record { blank = is_blank; split = is_split; size = size_of; width = w; trim = wrap.trim }

-- each grapheme has its mark
pub record AreMarks (graphemes : List StyledGrapheme) (marks : List Mark) : Type 0 where
  pub together : length graphemes ≡ length marks
  pub marked : marks ≡ map mark_of (zip (map glyph_of graphemes) (map is_split marks))
