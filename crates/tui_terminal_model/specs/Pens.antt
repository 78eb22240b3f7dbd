-- The pen of a cell, and the commands that set it.
use Rattle.std.specs.Prelude.{◌≡◌, ℕ, ◌+◌, Bool, true, false, not, ◌&&◌, ◌||◌, bit_and, ◌==◌, List, [], ◌∷◌, ◌++◌, length, if◌then◌else◌}
use Rattle.tui_cells.specs.declared.attributes.Attributes.{Attributes}
use Rattle.tui_cells.specs.declared.color.Color.{Color}
use Rattle.tui_cells.specs.declared.color.Color.TheVariants.{
  Reset,
  DarkGray,
  LightRed,
  LightGreen,
  LightYellow,
  LightBlue,
  LightMagenta,
  LightCyan,
  White,
  Rgb,
  Indexed,
}
use Rattle.tui_cells.specs.Cell.{Look}
use Rattle.tui_cells.specs.contracts.color.ColorPartialEq as color
use Rattle.tui_terminal_model.specs.declared.depth.Depth.{Depth}
use Rattle.tui_terminal_model.specs.Colours.{color_at}
use Rattle.tui_terminal_model.specs.Terminal.{Pen, Setting, mark, front, back, Command, paint, add}

-- the colours and the modifiers of a cell
abbrev pub attributes_of : Look → Attributes
attributes_of c = record { fg = c.fg; bg = c.bg; modifier = record { bits = c.modifier } }

-- whether a modifier is set in some bits
abbrev pub has : ℕ → ℕ → Bool
has bits one = bit_and bits one == one

-- the marks of modifiers, from bold to crossed out
abbrev pub marks_of : ℕ → List Bool
marks_of m = has m 1 ∷ has m 2 ∷ has m 4 ∷ has m 8 ∷ has m 16 ∷ has m 32 ∷ has m 64 ∷ has m 128 ∷ has m 256 ∷ []

-- the pen that draws a cell
abbrev pub pen_of : Depth → Attributes → Pen
pen_of depth a = record { fg = color_at depth a.fg; bg = color_at depth a.bg; marks = marks_of a.modifier.bits }

-- The settings that turn the default pen into this one: the marks, and each colour but the terminal's own.
abbrev pub marks_from : ℕ → List Bool → List Setting
marks_from k [] = []
marks_from k (b ∷ bs) = (if b then mark k ∷ [] else []) ++ marks_from (k + 1) bs

unfoldable pub foreground_of : Color → List Setting
foreground_of Reset = []
foreground_of c = front c ∷ []

unfoldable pub background_of : Color → List Setting
background_of Reset = []
background_of c = back c ∷ []

abbrev pub settings_of : Pen → List Setting
settings_of p = marks_from 0 p.marks ++ (foreground_of p.fg ++ background_of p.bg)

-- how many parameters a setting takes in a sequence
unfoldable pub color_parameters : Color → ℕ
color_parameters (Rgb red green blue) = 5
color_parameters (Indexed n) = 3
color_parameters c = 1

abbrev pub parameters : List Setting → ℕ
parameters [] = 0
parameters (mark k ∷ ss) = 1 + parameters ss
parameters (front c ∷ ss) = color_parameters c + parameters ss
parameters (back c ∷ ss) = color_parameters c + parameters ss

-- A sequence has at most 16 parameters, since some terminals read no more. So a background colour without a name is set
-- in a sequence of its own.
unfoldable pub has_name : Color → Bool
has_name (Rgb red green blue) = false
has_name (Indexed n) = false
has_name c = true

-- the pen after the first sequence, and the second sequence if there is one
abbrev pub first_pen : Pen → Pen
first_pen p = record p { bg = if has_name p.bg then p.bg else Reset }

abbrev pub then_background : Color → List Command
then_background c = if has_name c then [] else add (back c) [] ∷ []

-- the commands that set a pen, whatever it was
abbrev pub paints_of : Pen → List Command
paints_of p = paint (settings_of (first_pen p)) ∷ then_background p.bg

-- a pen that one paint can set
pub record IsPen (p : Pen) : Type 0 where
  pub nine : length p.marks ≡ 9
  pub name : has_name p.bg ≡ true

-- ---- what is added to a pen

-- each mark of the first pen is also a mark of the second
abbrev pub marks_stay : List Bool → List Bool → Bool
marks_stay (a ∷ ms) (b ∷ ns) = (not a || b) && marks_stay ms ns
marks_stay _ _ = true

-- a colour stays, or becomes one other than the terminal's own
unfoldable pub is_own : Color → Bool
is_own Reset = true
is_own c = false

abbrev pub color_stays : Color → Color → Bool
color_stays a b = color.TheImpl.ghosts.eq a b || not (is_own b)

-- a colour that some terminals show by bold, which they don't take back at the next colour
unfoldable pub is_bright : Color → Bool
is_bright DarkGray = true
is_bright LightRed = true
is_bright LightGreen = true
is_bright LightYellow = true
is_bright LightBlue = true
is_bright LightMagenta = true
is_bright LightCyan = true
is_bright White = true
is_bright c = false

-- nothing is taken away between one pen and another
abbrev pub only_adds : Pen → Pen → Bool
only_adds p q = not (is_bright p.fg || is_bright p.bg) && (marks_stay p.marks q.marks && (color_stays p.fg q.fg && color_stays p.bg q.bg))

-- the marks that are added, and each colour that changes
abbrev pub marks_added : ℕ → List Bool → List Bool → List Setting
marks_added k (a ∷ ms) (b ∷ ns) = (if not a && b then mark k ∷ [] else []) ++ marks_added (k + 1) ms ns
marks_added k _ _ = []

abbrev pub foreground_added : Color → Color → List Setting
foreground_added a b = if color.TheImpl.ghosts.eq a b then [] else front b ∷ []

abbrev pub background_added : Color → Color → List Setting
background_added a b = if color.TheImpl.ghosts.eq a b then [] else back b ∷ []

abbrev pub added : Pen → Pen → List Setting
added p q = marks_added 0 p.marks q.marks ++ (foreground_added p.fg q.fg ++ (if has_name q.bg then background_added p.bg q.bg else []))

-- the command that sets them, if there are any
abbrev pub add_all : List Setting → List Command
add_all [] = []
add_all (s ∷ ss) = add s ss ∷ []

abbrev pub then_background_added : Color → Color → List Command
then_background_added a b = if has_name b then [] else add_all (background_added a b)

-- the commands that turn one pen into another by adding to it
abbrev pub adds_of : Pen → Pen → List Command
adds_of p q = add_all (added p q) ++ then_background_added p.bg q.bg
