-- What is sent, and how: each cell at most once, with its move and its pen right before it.
use Rattle.std.specs.Prelude.{◌≡◌, ℕ, ◌+◌, ◌<◌, ◌≤◌, true, false, List, [], ◌∷◌, ◌++◌, All, Contains, length, flat_map, ◌⊎◌, if◌then◌else◌}
use Rattle.tui_text.specs.Visible.{PlacedCell}
use Rattle.tui_terminal_model.specs.declared.cursor.Cursor.{Cursor}
use Rattle.tui_terminal_model.specs.declared.cursor.Cursor.TheVariants.{Keep, Hidden, At}
use Rattle.tui_terminal_model.specs.declared.depth.Depth.{Depth}
use Rattle.tui_terminal_model.specs.declared.output.Output.{Output}
use Rattle.tui_terminal_model.specs.declared.widths.KnownWidths.{KnownWidths}
use Rattle.tui_terminal_model.specs.Pens.{IsPen, adds_of, attributes_of, only_adds, paints_of, parameters, pen_of, settings_of}
use Rattle.tui_terminal_model.specs.Encoding.{encoding}
use Rattle.tui_terminal_model.specs.Symbols.{is_quiet, has_known_width}
use Rattle.tui_terminal_model.specs.Terminal.{Pen, Setting, mark, Mode, visible, synchronizing, Command, place, across, paint, add, print, set_mode}

-- ---- the bytes are commands

-- A printed symbol holds no control character, so no text of a cell begins a command. A paint sets a pen of nine
-- marks. No sequence has more than 16 parameters. A frame sets no modes other than the cursor's visibility and
-- synchronized output.
abbrev pub IsSafeSetting : Setting → Type 0
IsSafeSetting (mark k) = k < 9
IsSafeSetting _ = Unit {0}

abbrev pub IsSafeMode : Mode → Type 0
IsSafeMode visible = Unit {0}
IsSafeMode synchronizing = Unit {0}
IsSafeMode _ = ⊥

abbrev pub IsSafe : Command → Type 0
IsSafe (print symbol) = (0 < length symbol) × (is_quiet symbol ≡ true)
IsSafe (paint ss) = (p : Pen) × (IsPen p × (ss ≡ settings_of p))
IsSafe (add s ss) = All IsSafeSetting (s ∷ ss) × (parameters (s ∷ ss) ≤ 16)
IsSafe (set_mode mode on) = IsSafeMode mode
IsSafe _ = Unit {0}

-- two symbols with no command between them both have a known width, so neither joins the other, and the bytes
-- have one reading
abbrev pub Meet : KnownWidths → Command → List Command → Type 0
Meet widths (print symbol) (print next ∷ cs) = (has_known_width widths symbol ≡ true) × (has_known_width widths next ≡ true)
Meet widths _ _ = Unit {0}

abbrev pub IsApart : KnownWidths → List Command → Type 0
IsApart widths [] = Unit {0}
IsApart widths (c ∷ cs) = Meet widths c cs × IsApart widths cs

-- the first command prints no symbol, so that none joins what came before
abbrev pub Begins : List Command → Type 0
Begins (print symbol ∷ cs) = ⊥
Begins _ = Unit {0}

pub record IsEncoded (widths : KnownWidths) (commands : List Command) (text : List ℕ) : Type 0 where
  pub encoded : text ≡ flat_map encoding commands
  pub safe : All IsSafe commands
  pub apart : IsApart widths commands
  pub begins : Begins commands

-- ---- cells that are sent

-- the cursor is moved to a cell: within its row, from anywhere, or not at all
abbrev pub IsMove : ℕ → PlacedCell → List Command → Type 0
IsMove y p cs = (cs ≡ []) ⊎ ((cs ≡ across p.column ∷ []) ⊎ (cs ≡ place p.column y ∷ []))

-- a pen is set by what it adds to another one
abbrev pub IsAdded : Pen → List Command → Type 0
IsAdded pen cs = (from : Pen) × (only_adds from pen ≡ true) × (cs ≡ adds_of from pen)

-- the pen of a cell is set: in full, by what is added, or not at all
abbrev pub IsPaint : Depth → PlacedCell → List Command → Type 0
IsPaint depth p cs =
    let pen = pen_of depth (attributes_of p.cell) in (cs ≡ []) ⊎ ((cs ≡ paints_of pen) ⊎ IsAdded pen cs)

-- commands that send one cell, and then the others
pub record SendsFirst (depth : Depth) (y : ℕ) (p : PlacedCell) (others : List Command → Type 0) (cs : List Command) : Type 0 where
  pub moves : List Command
  pub paints : List Command
  pub more : List Command
  pub is_move : IsMove y p moves
  pub is_paint : IsPaint depth p paints
  pub sends_more : others more
  pub whole : cs ≡ moves ++ (paints ++ print p.cell.symbol ∷ more)

-- commands that send some cells of a row, from the first to the last
abbrev pub Sends : Depth → ℕ → List PlacedCell → List Command → Type 0
Sends depth y [] cs = cs ≡ []
Sends depth y (p ∷ ps) cs = SendsFirst depth y p (Sends depth y ps) cs

-- commands that send some cells of each row; the first row has this number
pub record SendsRow (depth : Depth) (y : ℕ) (ps : List PlacedCell) (others : List Command → Type 0) (cs : List Command) : Type 0 where
  pub here : List Command
  pub more : List Command
  pub sends : Sends depth y ps here
  pub sends_more : others more
  pub whole : cs ≡ here ++ more

abbrev pub SendsRows : Depth → ℕ → List (List PlacedCell) → List Command → Type 0
SendsRows depth y [] cs = cs ≡ []
SendsRows depth y (ps ∷ pss) cs = SendsRow depth y ps (SendsRows depth (y + 1) pss) cs

-- what comes before and after the cells of a frame
abbrev pub opening : Output → List Command
opening o = if o.synchronized then set_mode synchronizing true ∷ [] else []

abbrev pub cursor_commands : Cursor → List Command
cursor_commands Keep = []
cursor_commands Hidden = set_mode visible false ∷ []
cursor_commands (At p) = place p.x p.y ∷ set_mode visible true ∷ []

abbrev pub closing : Output → Cursor → List Command
closing o cursor = cursor_commands cursor ++ (if o.synchronized then set_mode synchronizing false ∷ [] else [])

pub record IsFrame (o : Output) (cursor : Cursor) (y : ℕ) (sent : List (List PlacedCell)) (cs : List Command) : Type 0 where
  pub rows : List Command
  pub sends : SendsRows o.depth y sent rows
  pub framed : cs ≡ opening o ++ (rows ++ closing o cursor)

-- ---- which cells

-- no two of them begin in the same column
abbrev pub AreOnce : List PlacedCell → Type 0
AreOnce [] = Unit {0}
AreOnce (p ∷ ps) = ((q : PlacedCell) → Contains ps q → q.column ≡ p.column → ⊥) × AreOnce ps

-- all visible cells of a row, each once
pub record AreAll (all ps : List PlacedCell) : Type 0 where
  pub among : (p : PlacedCell) → Contains ps p → Contains all p
  pub each : (p : PlacedCell) → Contains all p → Contains ps p
  pub once : AreOnce ps

-- a cell that shows now and did not show so before
abbrev pub IsNew : List PlacedCell → List PlacedCell → PlacedCell → Type 0
IsNew old new p = Contains new p × (Contains old p → ⊥)

-- no cell appears or disappears whose symbol has an uncertain width
abbrev pub IsCalm : KnownWidths → List PlacedCell → List PlacedCell → Type 0
IsCalm widths old new = (p : PlacedCell) → IsNew old new p ⊎ IsNew new old p → has_known_width widths p.cell.symbol ≡ true

-- Some visible cells of a row, each once. All new ones are among them. If no cell with a symbol of uncertain width
-- appears or disappears, there are no others.
pub record AreSent (widths : KnownWidths) (old new ps : List PlacedCell) : Type 0 where
  pub among : (p : PlacedCell) → Contains ps p → Contains new p
  pub fresh : IsCalm widths old new → (p : PlacedCell) → Contains ps p → IsNew old new p
  pub each : (p : PlacedCell) → IsNew old new p → Contains ps p
  pub once : AreOnce ps
