-- The graphemes in a list with their marks.
use Rattle.std.specs.Prelude.{◌≡◌, ◌≤◌, ℕ, Bool, List, ◌++◌, length, map, sum_by}
use Rattle.std.specs.List.{between, zip}
use Rattle.tui_text.specs.Grapheme.{Glyph, glyph_of, glyph_width}
use Rattle.tui_text.specs.declared.grapheme.StyledGrapheme.{StyledGrapheme}
use Rattle.tui_para.specs.Hyphenation.{after_all, marked_from}
use Rattle.tui_para.specs.Wrapped.{not_wider}
use Rattle.tui_para.specs.Mark.{is_split}
use Rattle.tui_para.specs.declared.wrapping.hyphenation.Hyphenation.{Hyphenation}
use Rattle.tui_para.specs.declared.wrapping.hyphenation.Hyphenation.TheVariants.{Off}
use Rattle.tui_para.specs.declared.wrapping.marked.Marked.{Marked}
use Rattle.tui_para.specs.declared.wrapping.part.LineRange.{LineRange}

-- the graphemes, each with whether its word is split before it
abbrev pub splits_of : Marked → List (Glyph × Bool)
splits_of m = zip (map glyph_of m.graphemes.items) (map is_split m.marks.items)

-- the graphemes alone
abbrev pub glyphs_of : Marked → List Glyph
glyphs_of m = map (λ p. p.0) (splits_of m)

-- the graphemes of `taken` that are not wider than w are appended, with their words split as after the state `before`
abbrev pub AreAppended : Hyphenation → ℕ → List StyledGrapheme → Marked → Marked → Type 0
AreAppended before w taken old new = splits_of new ≡ splits_of old ++ marked_from before (not_wider glyph_width w (map glyph_of taken))

-- they are appended with their words split as after the graphemes that were there
pub record HasKept (w : ℕ) (taken : List StyledGrapheme) (old new : Marked) : Type 0 where
  pub after : AreAppended old.hyphenation w taken old new
  pub goes_on : new.hyphenation ≡ after_all old.hyphenation (not_wider glyph_width w (map glyph_of taken))

-- they are appended without splits, which are marked later
pub record HasPushed (w : ℕ) (taken : List StyledGrapheme) (old new : Marked) : Type 0 where
  pub after : AreAppended Off w taken old new
  pub same : new.hyphenation ≡ old.hyphenation

-- the graphemes of a part
abbrev pub part_of : List Glyph → LineRange → List Glyph
part_of glyphs p = between p.start p.end glyphs

-- the part is within the graphemes, and has their width
pub record IsLineRange (glyphs : List Glyph) (p : LineRange) : Type 0 where
  pub order : p.start ≤ p.end
  pub within : p.end ≤ length glyphs
  pub columns : p.width ≡ sum_by glyph_width (part_of glyphs p)
