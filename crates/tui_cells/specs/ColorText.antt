-- How a colour is written, in a scene and in the printed screen.
use Rattle.std.specs.Prelude.{ℕ, ◌/◌, ◌%◌, List, [], ◌∷◌, ◌++◌, codes, decimal, slice_index_or}
use Rattle.tui_cells.specs.declared.color.Color.{Color}
use Rattle.tui_cells.specs.declared.color.Color.TheVariants as colors

-- a hexadecimal digit
abbrev pub hex_digit : ℕ → ℕ
hex_digit n = slice_index_or (codes "0123456789abcdef") n 0

-- a byte as two hexadecimal digits
abbrev pub hex_byte : ℕ → List ℕ
hex_byte n = hex_digit (n / 16) ∷ hex_digit (n % 16) ∷ []

-- a colour's name, its red, green and blue in hexadecimal, or its index
unfoldable pub color_text : Color → List ℕ
color_text colors.Reset = codes "reset"
color_text colors.Black = codes "black"
color_text colors.Red = codes "red"
color_text colors.Green = codes "green"
color_text colors.Yellow = codes "yellow"
color_text colors.Blue = codes "blue"
color_text colors.Magenta = codes "magenta"
color_text colors.Cyan = codes "cyan"
color_text colors.Gray = codes "gray"
color_text colors.DarkGray = codes "darkgray"
color_text colors.LightRed = codes "lightred"
color_text colors.LightGreen = codes "lightgreen"
color_text colors.LightYellow = codes "lightyellow"
color_text colors.LightBlue = codes "lightblue"
color_text colors.LightMagenta = codes "lightmagenta"
color_text colors.LightCyan = codes "lightcyan"
color_text colors.White = codes "white"
color_text (colors.Rgb red green blue) = codes "#" ++ (hex_byte red ++ (hex_byte green ++ hex_byte blue))
color_text (colors.Indexed n) = decimal n
