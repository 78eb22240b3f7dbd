-- Where words are split, given what comes directly before.
use Rattle.std.specs.Prelude.{Bool, true, false, if◌then◌else◌, ◌&&◌, List, [], ◌∷◌}
use Rattle.tui_para.specs.Hyphens.{is_hyphen, is_letter}
use Rattle.tui_para.specs.declared.wrapping.hyphenation.Hyphenation.{Hyphenation}
use Rattle.tui_para.specs.declared.wrapping.hyphenation.Hyphenation.TheVariants.{Off, Neither, Letter, Hyphen}
use Rattle.tui_text.specs.Grapheme.{Glyph, glyph_blank}

-- at the beginning of a text line
abbrev pub at_start : Bool → Hyphenation
at_start hyphens = if hyphens then Neither else Off

-- the state after a `-`
abbrev pub on_hyphen : Hyphenation → Hyphenation
on_hyphen Off = Off
on_hyphen Neither = Neither
on_hyphen Letter = Hyphen
on_hyphen Hyphen = Neither

-- the state after another grapheme, which is whitespace or not
abbrev pub on_other : Bool → Hyphenation → Hyphenation
on_other blank Off = Off
on_other blank Neither = if blank then Neither else Letter
on_other blank Letter = if blank then Neither else Letter
on_other blank Hyphen = if blank then Neither else Letter

-- the state after one more grapheme
abbrev pub after : Hyphenation → Glyph → Hyphenation
after before g = if is_hyphen g then on_hyphen before else on_other (glyph_blank g) before

-- the state after a whole list
abbrev pub after_all : Hyphenation → List Glyph → Hyphenation
after_all before [] = before
after_all before (g ∷ gs) = after_all (after before g) gs

-- whether a `-` after which a word may be split comes directly before
abbrev pub after_hyphen : Hyphenation → Bool
after_hyphen Off = false
after_hyphen Neither = false
after_hyphen Letter = false
after_hyphen Hyphen = true

-- whether a letter comes directly before
abbrev pub after_letter : Hyphenation → Bool
after_letter Off = false
after_letter Neither = false
after_letter Letter = true
after_letter Hyphen = false

-- graphemes, each with whether its word is split before it
abbrev pub marked_from : Hyphenation → List Glyph → List (Glyph × Bool)
marked_from before [] = []
marked_from before (g ∷ gs) = (g, after_hyphen before && is_letter g) ∷ marked_from (after before g) gs
