-- The cells of a row, one after another.
use Rattle.std.specs.Prelude.{◌≡◌, Bool, ◌&&◌, ℕ, ◌<◌, List, [], ◌∷◌, ◌++◌, length, slice_index_or, flat_map, Option, None, Some}
use Rattle.tui_cells.specs.Buffer.{Screen}
use Rattle.tui_cells.specs.Cell.{Look}
use Rattle.tui_cells.specs.contracts.color.ColorPartialEq as color
use Rattle.tui_cells.specs.declared.attributes.Attributes.{Attributes}
use Rattle.tui_terminal_model.specs.declared.depth.Depth.{Depth}
use Rattle.tui_terminal_model.specs.declared.widths.KnownWidths.TheVariants.{Common}
use Rattle.tui_terminal_model.specs.Pens.{attributes_of, marks_of, marks_stay, pen_of}
use Rattle.tui_terminal_model.specs.Pieces.{row_pieces}
use Rattle.tui_terminal_model.specs.Encoding.{encoding}
use Rattle.tui_terminal_model.specs.Styled.{Becomes, StyledRow}
use Rattle.tui_terminal_model.specs.Terminal.{Command, Pen, print, rest}

-- whether attributes have the same marks, ignoring other bits
abbrev pub has_same_marks : Attributes → Attributes → Bool
has_same_marks a b =
    marks_stay (marks_of a.modifier.bits) (marks_of b.modifier.bits) && marks_stay (marks_of b.modifier.bits) (marks_of a.modifier.bits)

-- whether attributes set the same pen, if their colours are already converted to the depth
abbrev pub is_sent_same : Attributes → Attributes → Bool
is_sent_same a b = color.TheImpl.ghosts.eq a.fg b.fg && color.TheImpl.ghosts.eq a.bg b.bg && has_same_marks a b

-- commands that print what shows in a column with its pen, if anything begins there
abbrev pub StyledCell : Depth → Pen → Option Look → Pen → List Command → Type 0
StyledCell depth pen None next cs = (next ≡ pen) × (cs ≡ [])
StyledCell depth pen (Some c) next cs =
    (next ≡ pen_of depth (attributes_of c)) × ((paints : List Command) × Becomes pen next paints × (cs ≡ paints ++ print c.symbol ∷ []))

-- the first rows of a screen, each by its commands
pub record AreFirst (depth : Depth) (b : Screen) (count : ℕ) (rows : List (List Command)) : Type 0 where
  pub counted : length rows ≡ count
  pub each : (y : ℕ) → y < count → StyledRow depth rest (row_pieces Common b y) (slice_index_or rows y [])

-- a row, and a newline after it
abbrev pub styled_line : List Command → List ℕ
styled_line cs = flat_map encoding cs ++ 10 ∷ []
