-- When a terminal shows a screen.
use Rattle.std.specs.Prelude.{◌≡◌, ℕ, ◌+◌, ◌<◌, ◌≤◌, ◌⊎◌, Bool, true, false, List, Contains, length, Some}
use Rattle.tui_cells.specs.Buffer.{Screen}
use Rattle.tui_text.specs.Visible.{PlacedCell, step_of}
use Rattle.tui_terminal_model.specs.declared.cursor.Cursor.{Cursor}
use Rattle.tui_terminal_model.specs.declared.cursor.Cursor.TheVariants.{Keep, Hidden, At}
use Rattle.tui_terminal_model.specs.declared.depth.Depth.{Depth}
use Rattle.tui_terminal_model.specs.declared.output.Output.{Output}
use Rattle.tui_terminal_model.specs.declared.widths.KnownWidths.{KnownWidths}
use Rattle.tui_terminal_model.specs.Pens.{attributes_of, pen_of}
use Rattle.tui_terminal_model.specs.Pieces.{row_pieces}
use Rattle.tui_terminal_model.specs.Symbols.{has_known_width}
use Rattle.tui_terminal_model.specs.Terminal.{Shown, part, Tty}

-- a row shows a cell: each of the cell's columns has its part of the symbol
abbrev pub ShowsCell : Depth → (ℕ → Shown) → PlacedCell → Type 0
ShowsCell depth row p =
    (i : ℕ) → i < step_of p.cell.symbol → row (p.column + i) ≡ part p.cell.symbol (pen_of depth (attributes_of p.cell)) i

-- the terminal draws the symbol of each of these cells in the columns that are counted for it
abbrev pub KnowsAll : (List ℕ → Bool) → List PlacedCell → Type 0
KnowsAll knows ps = (p : PlacedCell) → Contains ps p → knows p.cell.symbol ≡ true

-- Each cell whose symbol has a known width is shown correctly, whatever the terminal does with other symbols. If the
-- terminal knows all symbols of the row, every cell is.
abbrev pub ShowsRow : Output → (List ℕ → Bool) → (ℕ → Shown) → List PlacedCell → Type 0
ShowsRow o knows row ps =
    (p : PlacedCell) → Contains ps p → (has_known_width o.widths p.cell.symbol ≡ true) ⊎ KnowsAll knows ps → ShowsCell o.depth row p

-- the area lies on the terminal
pub record HasRoom (t : Tty) (b : Screen) : Type 0 where
  pub wide : b.area.x + b.area.width ≤ t.columns
  pub high : b.area.y + b.area.height ≤ t.height

-- No mode is on that changes where or how it prints at its cursor. Nothing was cut short, and no output is held back.
pub record IsReady (t : Tty) : Type 0 where
  pub modes_reset : t.modes_reset ≡ true
  pub whole : t.whole ≡ true
  pub not_synchronizing : t.synchronizing ≡ Some false

-- a terminal shows a screen
pub record Shows (o : Output) (knows : List ℕ → Bool) (t : Tty) (b : Screen) : Type 0 where
  pub ready : IsReady t
  pub room : HasRoom t b
  pub rows : (y : ℕ) → y < length b.rows → ShowsRow o knows (t.cells (b.area.y + y)) (row_pieces o.widths b y)

-- and its cursor is as required
abbrev pub HasCursor : Cursor → Tty → Type 0
HasCursor Keep t = Unit {0}
HasCursor Hidden t = t.visible ≡ Some false
HasCursor (At p) t = (t.visible ≡ Some true) × (t.cursor ≡ Some (record { column = p.x; row = p.y }))

-- a position within the screen's area
pub record IsInside (x y : ℕ) (b : Screen) : Type 0 where
  pub left : b.area.x ≤ x
  pub right : x < b.area.x + b.area.width
  pub above : b.area.y ≤ y
  pub below : y < b.area.y + b.area.height

-- the position of the cursor lies in the area, if it has one
abbrev pub IsCursorInside : Cursor → Screen → Type 0
IsCursorInside Keep b = Unit {0}
IsCursorInside Hidden b = Unit {0}
IsCursorInside (At p) b = IsInside p.x p.y b

-- the terminal draws each symbol of known width in the columns that are counted for it
abbrev pub KnowsWidths : KnownWidths → (List ℕ → Bool) → Type 0
KnowsWidths widths knows = (symbol : List ℕ) → has_known_width widths symbol ≡ true → knows symbol ≡ true

-- a row of the terminal outside the area
abbrev pub IsOutside : Screen → ℕ → Type 0
IsOutside b r = (r < b.area.y) ⊎ (b.area.y + b.area.height ≤ r)

-- a cell beside the area, which shares no column with it
abbrev pub IsBeside : Screen → PlacedCell → Type 0
IsBeside b p = (p.column + step_of p.cell.symbol ≤ b.area.x) ⊎ (b.area.x + b.area.width ≤ p.column)
