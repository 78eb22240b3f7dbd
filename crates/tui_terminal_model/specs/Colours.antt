-- Colours at the depth of a terminal.
use Rattle.std.specs.Prelude.{ℕ, ◌+◌, ◌-◌, ◌*◌, ◌/◌, nat_le, nat_lt, List, [], ◌∷◌, get_or, map, if◌then◌else◌}
use Rattle.tui_cells.specs.declared.color.Color.{Color}
use Rattle.tui_cells.specs.declared.color.Color.TheVariants as colors
use Rattle.tui_terminal_model.specs.declared.depth.Depth.{Depth}
use Rattle.tui_terminal_model.specs.declared.depth.Depth.TheVariants as depths

-- red, green and blue
pub record Channels : Type 0 where
  pub red : ℕ
  pub green : ℕ
  pub blue : ℕ

-- the distance of two colours: the sum of the squares of the differences
abbrev pub gap : ℕ → ℕ → ℕ
gap a b = (a - b) + (b - a)

abbrev pub square : ℕ → ℕ
square n = n * n

unfoldable pub distance : Channels → Channels → ℕ
distance a b = square (gap a.red b.red) + (square (gap a.green b.green) + square (gap a.blue b.blue))

-- ---- the palette: 16 to 231 are a cube of six levels, by red, green and blue, and 232 to 255 are grays

abbrev pub level : ℕ → ℕ
level i = if nat_lt 0 i then 55 + 40 * i else 0

unfoldable pub cube_channels : ℕ → ℕ → ℕ → Channels
cube_channels r g b = record { red = level r; green = level g; blue = level b }

abbrev pub gray : ℕ → ℕ
gray i = 8 + 10 * i

unfoldable pub gray_channels : ℕ → Channels
gray_channels i = record { red = gray i; green = gray i; blue = gray i }

abbrev pub cube_index : ℕ → ℕ → ℕ → ℕ
cube_index r g b = 16 + (36 * r + (6 * g + b))

abbrev pub gray_index : ℕ → ℕ
gray_index i = 232 + i

-- the level that is nearest to a number
unfoldable pub level_at : ℕ → ℕ
level_at v = if nat_lt v 48 then 0 else if nat_lt v 115 then 1 else if nat_lt v 155 then 2 else if nat_lt v 195 then 3 else if nat_lt v 235 then 4 else 5

-- ---- the nearest of some colours

-- a colour as it is sent, and its red, green and blue
pub record Named : Type 0 where
  pub color : Color
  pub channels : Channels

-- the nearer of two, or the first if both are as near
abbrev pub nearer : Channels → Named → Named → Named
nearer c a b = if nat_le (distance c a.channels) (distance c b.channels) then a else b

unfoldable pub nearest_of : Channels → Named → List Named → Named
nearest_of c best [] = best
nearest_of c best (n ∷ ns) = nearest_of c (nearer c best n) ns

-- a colour of the cube, and a gray
abbrev pub cube_color : ℕ → ℕ → ℕ → Named
cube_color r g b = record { color = colors.Indexed (cube_index r g b); channels = cube_channels r g b }

abbrev pub gray_color : ℕ → Named
gray_color i = record { color = colors.Indexed (gray_index i); channels = gray_channels i }

unfoldable pub grays : List Named
grays = map gray_color (0 ∷ 1 ∷ 2 ∷ 3 ∷ 4 ∷ 5 ∷ 6 ∷ 7 ∷ 8 ∷ 9 ∷ 10 ∷ 11 ∷ 12 ∷ 13 ∷ 14 ∷ 15 ∷ 16 ∷ 17 ∷ 18 ∷ 19 ∷ 20 ∷ 21 ∷ 22 ∷ 23 ∷ [])

-- the nearest of the cube, level by level, and the nearest of the cube and the grays
abbrev pub nearest_in_cube : Channels → Named
nearest_in_cube c = cube_color (level_at c.red) (level_at c.green) (level_at c.blue)

abbrev pub nearest_in_palette : Channels → Named
nearest_in_palette c = nearest_of c (nearest_in_cube c) grays

-- ---- the sixteen named colours, as xterm has them by default

abbrev named : Color → ℕ → ℕ → ℕ → Named
named c r g b = record { color = c; channels = record { red = r; green = g; blue = b } }

abbrev pub black : Named
black = named colors.Black 0 0 0

unfoldable pub other_names : List Named
other_names =
    named colors.Red 205 0 0 ∷ named colors.Green 0 205 0 ∷ named colors.Yellow 205 205 0 ∷ named colors.Blue 0 0 238
    ∷ named colors.Magenta 205 0 205 ∷ named colors.Cyan 0 205 205 ∷ named colors.Gray 229 229 229 ∷ named colors.DarkGray 127 127 127
    ∷ named colors.LightRed 255 0 0 ∷ named colors.LightGreen 0 255 0 ∷ named colors.LightYellow 255 255 0 ∷ named colors.LightBlue 92 92 255
    ∷ named colors.LightMagenta 255 0 255 ∷ named colors.LightCyan 0 255 255 ∷ named colors.White 255 255 255 ∷ []

abbrev pub nearest_named : Channels → Color
nearest_named c = (nearest_of c black other_names).color

-- the first sixteen colours of the palette are the named ones
unfoldable pub named_at : ℕ → Color
named_at n = (get_or (black ∷ other_names) n black).color

-- red, green and blue of the other colours of the palette
abbrev pub channels_at : ℕ → Channels
channels_at n =
    if nat_lt n 232 then cube_channels ((n - 16) / 36) ((n - 16) / 6 - (n - 16) / 36 * 6) ((n - 16) - (n - 16) / 6 * 6) else gray_channels (n - 232)

-- ---- by depth

unfoldable pub palette_color : Color → Color
palette_color (colors.Rgb red green blue) = (nearest_in_palette (record { red = red; green = green; blue = blue })).color
palette_color c = c

unfoldable pub sixteen_color : Color → Color
sixteen_color (colors.Rgb red green blue) = nearest_named (record { red = red; green = green; blue = blue })
sixteen_color (colors.Indexed n) = if nat_lt n 16 then named_at n else nearest_named (channels_at n)
sixteen_color c = c

unfoldable pub color_at : Depth → Color → Color
color_at depths.None c = colors.Reset
color_at depths.Sixteen c = sixteen_color c
color_at depths.Palette c = palette_color c
color_at depths.True c = c
