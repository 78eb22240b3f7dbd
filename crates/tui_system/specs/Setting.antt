-- The terminal at the start of a session.
use Rattle.std.specs.Prelude.{◌≡◌, ◌⊎◌, ℕ, ◌≤◌, List, codes, false}
use Rattle.tui_program.specs.Arguments.{IsNumeralOf}
use Rattle.tui_program.specs.declared.numerals.Numerals.{Numerals}
use Rattle.tui_system.specs.System.{Given}
use Rattle.tui_system.specs.declared.settings.Setting.{Setting}
use Rattle.tui_terminal.specs.Depth.{IsDepth}
use Rattle.tui_terminal_model.specs.declared.depth.Depth.{Depth}
use Rattle.tui_terminal_model.specs.declared.output.Output.{Output}
use Rattle.tui_terminal_model.specs.declared.widths.KnownWidths.TheVariants.{Common}

-- a number of columns or rows: from 1 to 1000, in at most four digits
abbrev pub sides : Numerals
sides = record { digits = 4; least = 1; most = 1000 }

-- the number that a string denotes, or `otherwise` if it denotes none
abbrev pub IsSide : List ℕ → ℕ → ℕ → Type 0
IsSide text otherwise side = IsNumeralOf sides text side ⊎ (((n : ℕ) → IsNumeralOf sides text n → ⊥) × (side ≡ otherwise))

-- how output is sent to a terminal of this colour depth
abbrev pub output_of : Depth → Output
output_of depth = record { depth = depth; widths = Common; synchronized = false }

-- the colour depth that three variables of a system give
pub record IsDepthOf (given : Given) (depth : Depth) : Type 0 where
  pub no_color : List ℕ
  pub colorterm : List ℕ
  pub term : List ℕ
  pub texts : given.variable (codes "NO_COLOR") no_color × given.variable (codes "COLORTERM") colorterm × given.variable (codes "TERM") term
  pub is : IsDepth no_color colorterm term depth

-- the settings that the variables of a system give: the columns by COLUMNS, and the rows by LINES
pub record AreSettings (given : Given) (s : Setting) : Type 0 where
  pub depth : Depth
  pub depth_is : IsDepthOf given depth
  pub output : s.output ≡ output_of depth
  pub columns : List ℕ
  pub lines : List ℕ
  pub texts : given.variable (codes "COLUMNS") columns × given.variable (codes "LINES") lines
  pub width : IsSide columns 80 s.size.width
  pub height : IsSide lines 24 s.size.height

-- settings that some environment gives: output is sent like this, and there are 1 to 1000 columns and rows
pub record IsSetting (s : Setting) : Type 0 where
  pub depth : Depth
  pub output : s.output ≡ output_of depth
  pub wide : (1 ≤ s.size.width) × (s.size.width ≤ 1000)
  pub high : (1 ≤ s.size.height) × (s.size.height ≤ 1000)
