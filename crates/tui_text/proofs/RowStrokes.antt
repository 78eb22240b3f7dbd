-- Graphemes side by side in a row, one more at a time.
use Rattle.std.proofs.Common.{◌≡◌, ℕ, ◌+◌, ◌≤◌, min, List, [], ◌∷◌, None, refl, subst, arith}
use Rattle.std.proofs.lemmas.Bool.Decides.{nat_tests}
use Rattle.tui_cells.specs.declared.rect.Rect.{Rect}
use Rattle.tui_cells.specs.Buffer.{Screen}
use Rattle.tui_cells.specs.Layers.{Layer, Painted}
use Rattle.tui_cells.proofs.Painting.{Painted-then, Painted-none}
use Rattle.tui_text.specs.Grapheme.{Glyph, glyph_width}
use Rattle.tui_text.specs.Painting.{column_at, shown_glyph, shown_glyphs}
use Rattle.tui_text.specs.Row.{ShownUpTo}

column_past : (row : Rect) (skip place width : ℕ) → skip + row.width ≤ place → column_at row skip place width ≡ None
column_past row skip place width far = grind (arith, nat_tests)

-- past the row nothing is shown
shown_past : (row : Rect) (skip place : ℕ) (gs : List Glyph) → skip + row.width ≤ place → shown_glyphs row skip place gs ≡ []
unfolding shown_glyphs
shown_past row skip place [] far = refl
shown_past row skip place (g ∷ gs) far = rw (column_past row skip place (glyph_width g) far) (shown_past row skip (place + glyph_width g) gs (omega arith))

pub shown_ended : (row : Rect) (skip place : ℕ) (gs : List Glyph) (b : Screen) → skip + row.width ≤ place → Painted (shown_glyphs row skip place gs) b b
shown_ended row skip place gs b far = rw (shown_past row skip place gs far) (Painted-none b)

pub shown_none : (row : Rect) (skip place : ℕ) (gs : List Glyph) (b : Screen) → gs ≡ [] → Painted (shown_glyphs row skip place gs) b b
unfolding shown_glyphs
shown_none row skip place gs b e = rw e (Painted-none b)

-- cutting a place past the row changes nothing
shown_cut : (row : Rect) (skip place most : ℕ) (gs : List Glyph) → skip + row.width ≤ most → shown_glyphs row skip (min place most) gs ≡ shown_glyphs row skip place gs
shown_cut row skip place most gs wide = grind (arith, shown_past row skip most gs, shown_past row skip place gs)

-- past the row everything is painted, whatever is left
pub shown_whole : (row : Rect) (skip place : ℕ) (all left : List Glyph) (b : Screen) → skip + row.width ≤ place → ShownUpTo row skip place all place left b b
shown_whole row skip place all left b far =
    record { done = λ final p. rw (shown_past row skip place all far) (rw (shown_past row skip place left far) at p) }

-- what is painted, followed by more of what was left
pub shown_then : {row : Rect} {skip place next later : ℕ} {all left rest : List Glyph} {a b c : Screen} →
    ShownUpTo row skip place all next left a b → ShownUpTo row skip next left later rest b c → ShownUpTo row skip place all later rest a c
shown_then p q = record { done = λ final r. p.done final (q.done final r) }

pub shown_one : (row : Rect) (skip place next most : ℕ) (g : Glyph) (more : List Glyph) (a b : Screen) →
    skip + row.width ≤ most → next ≡ min (place + glyph_width g) most → Painted (shown_glyph row skip place g) a b →
    ShownUpTo row skip place (g ∷ more) next more a b
unfolding shown_glyphs
shown_one row skip place next most g more a b wide n p = record {
  done = λ final q.
      let after : Painted (shown_glyphs row skip (place + glyph_width g) more) b final =
      subst (λ (ls : List Layer). Painted ls b final) (shown_cut row skip (place + glyph_width g) most more wide) (rw n at q) in
      Painted-then p after;
}
