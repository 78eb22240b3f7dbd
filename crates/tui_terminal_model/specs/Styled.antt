-- The rows of a screen one below the other, for a pipe or a log. The cursor is not moved.
use Rattle.std.specs.Prelude.{◌≡◌, ◌≢◌, ℕ, ◌<◌, List, [], ◌∷◌, ◌++◌, length, slice_index_or, flat_map, ◌⊎◌}
use Rattle.tui_cells.specs.Buffer.{Screen}
use Rattle.tui_text.specs.Visible.{PlacedCell}
use Rattle.tui_terminal_model.specs.declared.depth.Depth.{Depth}
use Rattle.tui_terminal_model.specs.declared.widths.KnownWidths.TheVariants.{Common}
use Rattle.tui_terminal_model.specs.Pens.{attributes_of, paints_of, pen_of}
use Rattle.tui_terminal_model.specs.Pieces.{row_pieces}
use Rattle.tui_terminal_model.specs.Encoding.{encoding}
use Rattle.tui_terminal_model.specs.Terminal.{Pen, rest, Command, print}

-- one pen becomes another: nothing is sent if it is that one already, else it is set
abbrev pub Becomes : Pen → Pen → List Command → Type 0
Becomes pen next cs = ((pen ≡ next) × (cs ≡ [])) ⊎ ((pen ≢ next) × (cs ≡ paints_of next))

pub record StyledFirst (pen next : Pen) (p : PlacedCell) (others : List Command → Type 0) (cs : List Command) : Type 0 where
  pub paints : List Command
  pub more : List Command
  pub becomes : Becomes pen next paints
  pub others_follow : others more
  pub whole : cs ≡ paints ++ print p.cell.symbol ∷ more

-- commands that print cells one after another, each with its pen, and then set the default pen
abbrev pub StyledRow : Depth → Pen → List PlacedCell → List Command → Type 0
StyledRow depth pen [] cs = Becomes pen rest cs
StyledRow depth pen (p ∷ ps) cs = StyledFirst pen (pen_of depth (attributes_of p.cell)) p (StyledRow depth (pen_of depth (attributes_of p.cell)) ps) cs

-- each row, and a newline after it
pub record AreStyledRows (depth : Depth) (b : Screen) (text : List ℕ) : Type 0 where
  pub rows : List (List Command)
  pub counted : length rows ≡ length b.rows
  pub each : (y : ℕ) → y < length b.rows → StyledRow depth rest (row_pieces Common b y) (slice_index_or rows y [])
  pub encoded : text ≡ flat_map (λ cs. flat_map encoding cs ++ 10 ∷ []) rows
