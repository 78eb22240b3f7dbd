-- The bytes of commands, by ECMA-48, DEC's VT510 and xterm's control sequences.
use Rattle.std.specs.Prelude.{ℕ, ◌+◌, Bool, true, false, List, [], ◌∷◌, ◌++◌, codes, decimal, flat_map}
use Rattle.tui_cells.specs.declared.color.Color.{Color}
use Rattle.tui_cells.specs.declared.color.Color.TheVariants as colors
use Rattle.tui_terminal_model.specs.Terminal.{
  Setting,
  mark,
  front,
  back,
  Mode,
  autowrap,
  visible,
  synchronizing,
  bracketed,
  alternate,
  Command,
  reset_modes,
  place,
  across,
  paint,
  add,
  print,
  set_mode,
}

-- ESC, and the bytes that begin a control sequence
abbrev pub esc : List ℕ
esc = 27 ∷ []

abbrev pub csi : List ℕ
csi = 27 ∷ 91 ∷ []

-- The parameters of a foreground colour: 30 to 37, 90 to 97, 38;5 and an index, 38;2 and red, green and blue. 39 is
-- the terminal's own.
unfoldable pub foreground_text : Color → List ℕ
foreground_text colors.Reset = codes "39"
foreground_text colors.Black = codes "30"
foreground_text colors.Red = codes "31"
foreground_text colors.Green = codes "32"
foreground_text colors.Yellow = codes "33"
foreground_text colors.Blue = codes "34"
foreground_text colors.Magenta = codes "35"
foreground_text colors.Cyan = codes "36"
foreground_text colors.Gray = codes "37"
foreground_text colors.DarkGray = codes "90"
foreground_text colors.LightRed = codes "91"
foreground_text colors.LightGreen = codes "92"
foreground_text colors.LightYellow = codes "93"
foreground_text colors.LightBlue = codes "94"
foreground_text colors.LightMagenta = codes "95"
foreground_text colors.LightCyan = codes "96"
foreground_text colors.White = codes "97"
foreground_text (colors.Rgb red green blue) = codes "38;2;" ++ (decimal red ++ (codes ";" ++ (decimal green ++ (codes ";" ++ decimal blue))))
foreground_text (colors.Indexed n) = codes "38;5;" ++ decimal n

-- The parameters of a background colour: 40 to 47, 100 to 107, 48;5 and 48;2 likewise. 49 is the terminal's own.
unfoldable pub background_text : Color → List ℕ
background_text colors.Reset = codes "49"
background_text colors.Black = codes "40"
background_text colors.Red = codes "41"
background_text colors.Green = codes "42"
background_text colors.Yellow = codes "43"
background_text colors.Blue = codes "44"
background_text colors.Magenta = codes "45"
background_text colors.Cyan = codes "46"
background_text colors.Gray = codes "47"
background_text colors.DarkGray = codes "100"
background_text colors.LightRed = codes "101"
background_text colors.LightGreen = codes "102"
background_text colors.LightYellow = codes "103"
background_text colors.LightBlue = codes "104"
background_text colors.LightMagenta = codes "105"
background_text colors.LightCyan = codes "106"
background_text colors.White = codes "107"
background_text (colors.Rgb red green blue) = codes "48;2;" ++ (decimal red ++ (codes ";" ++ (decimal green ++ (codes ";" ++ decimal blue))))
background_text (colors.Indexed n) = codes "48;5;" ++ decimal n

-- a setting: the marks count from 1 (bold) to 9 (crossed out)
abbrev pub setting_text : Setting → List ℕ
setting_text (mark k) = decimal (k + 1)
setting_text (front c) = foreground_text c
setting_text (back c) = background_text c

-- after other settings
abbrev pub next_setting_text : Setting → List ℕ
next_setting_text s = codes ";" ++ setting_text s

-- CAN and ST, which end a sequence, a string or a character that was cut short. Then: no synchronized output, no left
-- and right margins, no origin mode, no insert mode, the whole screen as scroll region, ASCII, shift in, no autowrap.
unfoldable pub reset_modes_text : List ℕ
reset_modes_text =
    24 ∷ 27 ∷ 92 ∷ (csi ++ codes "?2026l" ++ csi ++ codes "?69l" ++ csi ++ codes "?6l" ++ csi ++ codes "4l"
    ++ csi ++ codes "r" ++ esc ++ codes "(B" ++ 15 ∷ (csi ++ codes "?7l"))

-- the number of a mode
abbrev pub mode_text : Mode → List ℕ
mode_text autowrap = codes "7"
mode_text visible = codes "25"
mode_text synchronizing = codes "2026"
mode_text bracketed = codes "2004"
mode_text alternate = codes "1049"

-- on: h, off: l
abbrev pub switch_text : Bool → List ℕ
switch_text true = codes "h"
switch_text false = codes "l"

-- the bytes of a command
unfoldable pub encoding : Command → List ℕ
encoding reset_modes = reset_modes_text
encoding (place x y) = csi ++ (decimal (y + 1) ++ (codes ";" ++ (decimal (x + 1) ++ codes "H")))
encoding (across x) = csi ++ (decimal (x + 1) ++ codes "G")
encoding (paint ss) = csi ++ (codes "0" ++ (flat_map next_setting_text ss ++ codes "m"))
encoding (add s ss) = csi ++ (setting_text s ++ (flat_map next_setting_text ss ++ codes "m"))
encoding (print symbol) = symbol
encoding (set_mode mode on) = csi ++ (codes "?" ++ (mode_text mode ++ switch_text on))
