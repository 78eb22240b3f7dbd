-- What is left of a wrapped text line after its first lines.
use Rattle.std.specs.Prelude.{◌≡◌, ℕ, false, List, [], ◌∷◌, ◌++◌, take, drop}
use Rattle.tui_text.specs.Grapheme.{Glyph, glyph_blank, glyph_width}
use Rattle.tui_para.specs.Hyphens.{Wrapped, WrappedAfter}
use Rattle.tui_para.specs.Wrapped.{LeavesOutBlanks, not_wider}
use Rattle.tui_para.specs.declared.wrap.Wrap.{Wrap}

-- the first graphemes, the last one first, before the others
abbrev pub reversed_onto : List Glyph → List Glyph → List Glyph
reversed_onto [] before = before
reversed_onto (g ∷ gs) before = reversed_onto gs (g ∷ before)

-- The first k lines are those of a prefix of the graphemes. The lines from line k on are those of the rest, with the
-- words split as in the whole. Without breaks after hyphens they are the wrapping of the rest alone.
pub record GoesOnAfter (w : ℕ) (wrap : Wrap) (glyphs : List Glyph) (lines : List (List Glyph)) (k : ℕ) : Type 0 where
  pub front : List Glyph
  pub rest : List Glyph
  pub whole : not_wider glyph_width w glyphs ≡ front ++ rest
  pub before : LeavesOutBlanks glyph_blank front (take k lines)
  pub after : WrappedAfter w wrap (reversed_onto front []) rest (drop k lines)
  pub alone : wrap.hyphens ≡ false → Wrapped w wrap rest (drop k lines)
