-- Colours: a name, `#` and six hexadecimal digits, or an index of the palette.
use Rattle.std.specs.Prelude.{ℕ, List, [], ◌∷◌, map, ◌+◌, ◌*◌, ◌-◌, ◌==◌, ◌&&◌, nat_le, nat_lt, if◌then◌else◌, Option, Some, None, option_and_then}
use Rattle.std.specs.Option.{option_or}
use Rattle.serde_json.specs.Data.{Data, number, string}
use Rattle.serde_json.specs.Find.{as_u64}
use Rattle.tui_cells.specs.declared.color.Color.{Color}
use Rattle.tui_cells.specs.declared.color.Color.TheVariants as colors
use Rattle.tui_cells.specs.ColorText.{color_text}
use Rattle.tui_json.specs.Members.{◌>>=◌, named}

-- the colours that have a name
abbrev pub named_colors : List Color
named_colors =
    colors.Reset ∷ colors.Black ∷ colors.Red ∷ colors.Green ∷ colors.Yellow ∷ colors.Blue ∷ colors.Magenta ∷ colors.Cyan
    ∷ colors.Gray ∷ colors.DarkGray ∷ colors.LightRed ∷ colors.LightGreen ∷ colors.LightYellow ∷ colors.LightBlue
    ∷ colors.LightMagenta ∷ colors.LightCyan ∷ colors.White ∷ []

-- the colour with this name, as `color_text` prints it
unfoldable pub color_named : List ℕ → Option Color
color_named s = named (map (λ color. (color_text color, color)) named_colors) s

-- a hexadecimal digit, in either case
abbrev pub digit_of : ℕ → Option ℕ
digit_of b =
    if nat_le 48 b && nat_le b 57 then Some (b - 48)
    else (if nat_le 97 b && nat_le b 102 then Some (b - 87)
    else (if nat_le 65 b && nat_le b 70 then Some (b - 55) else None))

-- a byte by its two hexadecimal digits
abbrev pub byte_of : ℕ → ℕ → Option ℕ
byte_of high low = do
  h ← digit_of high
  l ← digit_of low
  Some (16 * h + l)

-- a colour by `#` and six hexadecimal digits
unfoldable pub color_of_hex : List ℕ → Option Color
color_of_hex (mark ∷ r ∷ r' ∷ g ∷ g' ∷ b ∷ b' ∷ []) = if mark == 35 then (do
  red ← byte_of r r'
  green ← byte_of g g'
  blue ← byte_of b b'
  Some (colors.Rgb red green blue)) else None
color_of_hex _ = None

-- a colour by its index in the palette
abbrev pub indexed : ℕ → Option Color
indexed n = if nat_lt n 256 then Some (colors.Indexed n) else None

-- a colour by a string or by a number
unfoldable pub color_of : Data → Option Color
color_of (string s) = option_or (color_named s) (color_of_hex s)
color_of (number n) = option_and_then indexed (as_u64 n)
color_of _ = None
