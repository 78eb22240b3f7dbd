-- Laws of rows one below the other, as statements.
use Rattle.std.specs.Prelude.{◌≡◌, ℕ, ◌<◌, Bool, true, List, [], ◌∷◌, All, length, map, flat_map, slice_index_or, Option, Some}
use Rattle.tui_cells.specs.Buffer.{Screen}
use Rattle.tui_text.specs.Visible.{PlacedCell}
use Rattle.tui_terminal_model.specs.declared.depth.Depth.{Depth}
use Rattle.tui_terminal_model.specs.declared.widths.KnownWidths.TheVariants.{Common}
use Rattle.tui_terminal_model.specs.Pens.{attributes_of, pen_of}
use Rattle.tui_terminal_model.specs.Pieces.{row_pieces}
use Rattle.tui_terminal_model.specs.Sends.{IsSafe}
use Rattle.tui_terminal_model.specs.Encoding.{encoding}
use Rattle.tui_terminal_model.specs.Styled.{AreStyledRows}
use Rattle.tui_terminal_model.specs.Terminal.{Command, Pen, Tty, add, after, paint, print, rest, run}

-- the commands without those that set a pen
abbrev pub without_paints : List Command → List Command
without_paints [] = []
without_paints (paint ss ∷ cs) = without_paints cs
without_paints (add s ss ∷ cs) = without_paints cs
without_paints (c ∷ cs) = c ∷ without_paints cs

-- a symbol, and the pen that draws it, if that is known
pub record Inked : Type 0 where
  pub symbol : List ℕ
  pub pen : Option Pen

-- the symbols that commands draw on a terminal, each with its pen
abbrev pub drawn_by : (List ℕ → Bool) → List Command → Tty → List Inked
drawn_by knows [] t = []
drawn_by knows (print symbol ∷ cs) t = record { symbol = symbol; pen = t.pen } ∷ drawn_by knows cs (after knows (print symbol) t)
drawn_by knows (c ∷ cs) t = drawn_by knows cs (after knows c t)

-- a cell, and its own pen
abbrev pub inked : Depth → PlacedCell → Inked
inked depth p = record { symbol = p.cell.symbol; pen = Some (pen_of depth (attributes_of p.cell)) }

-- The commands of a row and its visible cells. Without the commands that set a pen, their bytes are the symbols of the
-- cells. If the pen is the default one before, each cell is drawn by its own pen. After the last cell the pen is the
-- default one again.
pub record IsPlainRow (depth : Depth) (ps : List PlacedCell) (cs : List Command) : Type 0 where
  pub symbols : flat_map encoding (without_paints cs) ≡ flat_map (λ p. p.cell.symbol) ps
  pub drawn : (knows : List ℕ → Bool) (t : Tty) → t.whole ≡ true → t.pen ≡ Some rest → drawn_by knows cs t ≡ map (inked depth) ps
  pub unstyled : (knows : List ℕ → Bool) (t : Tty) → t.whole ≡ true → t.pen ≡ Some rest → (run knows cs t).pen ≡ Some rest

-- each row of the encoding of a screen is such a row
abbrev pub StyledRowsArePlain : Type 0
StyledRowsArePlain = (depth : Depth) (b : Screen) (text : List ℕ) (k : AreStyledRows depth b text) (y : ℕ) → y < length b.rows →
    IsPlainRow depth (row_pieces Common b y) (slice_index_or k.rows y [])

-- a screen has only one such encoding: a pen is not set again if it is that one already
abbrev pub StyledRowsAreOne : Type 0
StyledRowsAreOne = (depth : Depth) (b : Screen) (text other : List ℕ) → AreStyledRows depth b text → AreStyledRows depth b other → other ≡ text

-- no symbol in it holds a control character, so no text of a cell begins a command
abbrev pub StyledRowsAreSafe : Type 0
StyledRowsAreSafe = (depth : Depth) (b : Screen) (text : List ℕ) (k : AreStyledRows depth b text) (y : ℕ) → y < length b.rows →
    All IsSafe (slice_index_or k.rows y [])
