-- Graphemes side by side in a row, some of which are painted.
use Rattle.std.specs.Prelude.{ℕ, ◌+◌, ◌-◌, ◌≤◌, ◌<◌, List}
use Rattle.tui_cells.specs.declared.rect.Rect.{Rect}
use Rattle.tui_cells.specs.Buffer.{Screen}
use Rattle.tui_cells.specs.Layers.{Painted}
use Rattle.tui_cells.specs.Rect.{bottom_of, right_of}
use Rattle.tui_text.specs.Grapheme.{Glyph}
use Rattle.tui_text.specs.Painting.{shown_glyphs}

-- this many columns from a place on lie in the row
pub record InRow (row : Rect) (skip place columns : ℕ) : Type 0 where
  pub begun : skip ≤ place
  pub within : row.x + (place - skip) + columns ≤ right_of row
  pub low : row.y < bottom_of row

-- painting the graphemes that are left, after those that are painted, paints all of them
pub record ShownUpTo (row : Rect) (skip place : ℕ) (all : List Glyph) (next : ℕ) (left : List Glyph) (old new : Screen) : Type 0 where
  pub done : (final : Screen) → Painted (shown_glyphs row skip next left) new final → Painted (shown_glyphs row skip place all) old final
