-- How the graphemes of a text line are wrapped: where words are split, and into which lines.
use Rattle.std.specs.Prelude.{◌≡◌, ℕ, Bool, false, not, ◌&&◌, List, [], ◌∷◌, map, nat_eq}
use Rattle.std.specs.Cmp.Lexicographic.{pointwise}
use Rattle.tui_para.specs.Places.{wrap_kept}
use Rattle.tui_para.specs.Rule.{Rule}
use Rattle.tui_para.specs.Wrapped.{WrapsKept, not_wider}
use Rattle.tui_para.specs.declared.wrap.Wrap.{Wrap}
use Rattle.tui_text.specs.Grapheme.{Glyph, glyph_blank, glyph_width}

-- lines break at whitespace only
abbrev pub at_blanks : Bool → Wrap
at_blanks trim = record { trim = trim; hyphens = false }

-- a text that is exactly `-`
unfoldable pub is_hyphen_text : List ℕ → Bool
is_hyphen_text text = pointwise nat_eq text (45 ∷ [])

-- whether a grapheme is a hyphen
abbrev pub is_hyphen : Glyph → Bool
is_hyphen g = is_hyphen_text g.text

-- whether it is neither a hyphen nor whitespace
abbrev pub is_letter : Glyph → Bool
is_letter g = not (is_hyphen g) && not (glyph_blank g)

-- Whether a word is split before a grapheme that comes after these, which are listed with the last one first. The last
-- one is a `-`, and it is in their word, directly between two graphemes that aren't `-`.
abbrev pub is_split : List Glyph → Glyph → Bool
is_split [] g = false
is_split (h ∷ []) g = false
is_split (h ∷ l ∷ before) g = is_letter l && is_hyphen h && is_letter g

-- graphemes that come after others, each with whether its word is split before it; without `hyphens` no word is split
abbrev pub with_splits : Bool → List Glyph → List Glyph → List (Glyph × Bool)
with_splits hyphens before [] = []
with_splits hyphens before (g ∷ gs) = (g, hyphens && is_split before g) ∷ with_splits hyphens (g ∷ before) gs

-- the rule for such graphemes
abbrev pub glyph_rule : ℕ → Wrap → Rule (Glyph × Bool)
glyph_rule w wrap = record { blank = λ p. glyph_blank p.0; split = λ p. p.1; size = λ p. glyph_width p.0; width = w; trim = wrap.trim }

-- lines of such graphemes, without the splits
abbrev pub unsplit : List (List (Glyph × Bool)) → List (List Glyph)
unsplit lines = map (map (λ p. p.0)) lines

-- lines that a relation admits, without the splits
abbrev pub Unsplit : (List (List (Glyph × Bool)) → Type 0) → List (List Glyph) → Type 0
Unsplit R lines = (parts : List (List (Glyph × Bool))) × R parts × (lines ≡ unsplit parts)

-- graphemes that come after others, none of them wider than w, are wrapped into these lines
abbrev pub WrappedAfter : ℕ → Wrap → List Glyph → List Glyph → List (List Glyph) → Type 0
WrappedAfter w wrap before glyphs lines = Unsplit (WrapsKept (glyph_rule w wrap) (with_splits wrap.hyphens before glyphs)) lines

-- the graphemes, without those that are wider than w, are wrapped into these lines
abbrev pub Wrapped : ℕ → Wrap → List Glyph → List (List Glyph) → Type 0
Wrapped w wrap glyphs lines = WrappedAfter w wrap [] (not_wider glyph_width w glyphs) lines

-- the lines into which they are wrapped: the one list that `Wrapped` admits
abbrev pub wrap : ℕ → Wrap → List Glyph → List (List Glyph)
wrap w way glyphs = unsplit (wrap_kept (glyph_rule w way) (with_splits way.hyphens [] (not_wider glyph_width w glyphs)))
