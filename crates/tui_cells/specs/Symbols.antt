-- The symbols that widgets draw with: each set by its symbols, and the sets of a module in the order of their
-- constants.
use Prim.Native.String.{String}
use Rattle.std.specs.Prelude.{ℕ, List, [], ◌∷◌, codes, flat_map, map}
use Rattle.std.specs.Char.{encode_utf8}
use Rattle.tui_cells.specs.declared.symbols.bar.Set.{Set as BarSet}
use Rattle.tui_cells.specs.declared.symbols.border.Set.{Set as BorderSet}
use Rattle.tui_cells.specs.declared.symbols.line.Set.{Set as LineSet}
use Rattle.tui_cells.specs.declared.symbols.scrollbar.Set.{Set as ScrollbarSet}

-- a string in UTF-8
abbrev pub utf8 : String → List ℕ
utf8 text = flat_map encode_utf8 (codes text)

-- borders
pub record BorderData : Type 0 where
  pub top_left : List ℕ
  pub top_right : List ℕ
  pub bottom_left : List ℕ
  pub bottom_right : List ℕ
  pub vertical_left : List ℕ
  pub vertical_right : List ℕ
  pub horizontal_top : List ℕ
  pub horizontal_bottom : List ℕ

-- a set of the code as plain data
abbrev pub border_data : BorderSet → BorderData
border_data s = record {
  top_left = s.top_left.now;
  top_right = s.top_right.now;
  bottom_left = s.bottom_left.now;
  bottom_right = s.bottom_right.now;
  vertical_left = s.vertical_left.now;
  vertical_right = s.vertical_right.now;
  horizontal_top = s.horizontal_top.now;
  horizontal_bottom = s.horizontal_bottom.now;
}

-- four corners, the left and right sides, the top and bottom sides
abbrev border : (top_left top_right bottom_left bottom_right vertical_left vertical_right horizontal_top horizontal_bottom : String) → BorderData
border top_left top_right bottom_left bottom_right vertical_left vertical_right horizontal_top horizontal_bottom = record {
  top_left = utf8 top_left;
  top_right = utf8 top_right;
  bottom_left = utf8 bottom_left;
  bottom_right = utf8 bottom_right;
  vertical_left = utf8 vertical_left;
  vertical_right = utf8 vertical_right;
  horizontal_top = utf8 horizontal_top;
  horizontal_bottom = utf8 horizontal_bottom;
}

-- the sets by their names
abbrev pub plain_border : BorderData
plain_border = border "┌" "┐" "└" "┘" "│" "│" "─" "─"

abbrev pub rounded_border : BorderData
rounded_border = border "╭" "╮" "╰" "╯" "│" "│" "─" "─"

abbrev pub double_border : BorderData
double_border = border "╔" "╗" "╚" "╝" "║" "║" "═" "═"

abbrev pub thick_border : BorderData
thick_border = border "┏" "┓" "┗" "┛" "┃" "┃" "━" "━"

abbrev pub light_double_dashed_border : BorderData
light_double_dashed_border = border "┌" "┐" "└" "┘" "╎" "╎" "╌" "╌"

abbrev pub heavy_double_dashed_border : BorderData
heavy_double_dashed_border = border "┏" "┓" "┗" "┛" "╏" "╏" "╍" "╍"

abbrev pub light_triple_dashed_border : BorderData
light_triple_dashed_border = border "┌" "┐" "└" "┘" "┆" "┆" "┄" "┄"

abbrev pub heavy_triple_dashed_border : BorderData
heavy_triple_dashed_border = border "┏" "┓" "┗" "┛" "┇" "┇" "┅" "┅"

abbrev pub light_quadruple_dashed_border : BorderData
light_quadruple_dashed_border = border "┌" "┐" "└" "┘" "┊" "┊" "┈" "┈"

abbrev pub heavy_quadruple_dashed_border : BorderData
heavy_quadruple_dashed_border = border "┏" "┓" "┗" "┛" "┋" "┋" "┉" "┉"

abbrev pub quadrant_inside_border : BorderData
quadrant_inside_border = border "▗" "▖" "▝" "▘" "▐" "▌" "▄" "▀"

abbrev pub quadrant_outside_border : BorderData
quadrant_outside_border = border "▛" "▜" "▙" "▟" "▌" "▐" "▀" "▄"

-- the sets in the order of the constants
abbrev pub border_sets : List BorderData
border_sets =
    plain_border ∷ rounded_border ∷ double_border ∷ thick_border ∷
    light_double_dashed_border ∷ heavy_double_dashed_border ∷ light_triple_dashed_border ∷ heavy_triple_dashed_border ∷
    light_quadruple_dashed_border ∷ heavy_quadruple_dashed_border ∷ quadrant_inside_border ∷ quadrant_outside_border ∷
    []

-- lines
pub record LineData : Type 0 where
  pub vertical : List ℕ
  pub horizontal : List ℕ

-- a set of the code as plain data
abbrev pub line_data : LineSet → LineData
line_data s = record { vertical = s.vertical.now; horizontal = s.horizontal.now }

abbrev line : (vertical horizontal : String) → LineData
line vertical horizontal = record { vertical = utf8 vertical; horizontal = utf8 horizontal }

-- the sets in the order of the constants
abbrev pub line_sets : List LineData
line_sets = line "│" "─" ∷ line "║" "═" ∷ line "┃" "━" ∷ []

-- the two symbols of a light line, vertical and horizontal
abbrev pub line_symbols : List (List ℕ)
line_symbols = utf8 "│" ∷ utf8 "─" ∷ []

-- blocks from the left: full, and seven eighths down to one
abbrev pub block_symbols : List (List ℕ)
block_symbols = map utf8 ("█" ∷ "▉" ∷ "▊" ∷ "▋" ∷ "▌" ∷ "▍" ∷ "▎" ∷ "▏" ∷ [])

-- shades: none, light, medium, dark, full
abbrev pub shade_symbols : List (List ℕ)
shade_symbols = map utf8 (" " ∷ "░" ∷ "▒" ∷ "▓" ∷ "█" ∷ [])

-- bars from below: full, seven eighths down to one, empty
pub record BarData : Type 0 where
  pub full : List ℕ
  pub seven_eighths : List ℕ
  pub three_quarters : List ℕ
  pub five_eighths : List ℕ
  pub half : List ℕ
  pub three_eighths : List ℕ
  pub one_quarter : List ℕ
  pub one_eighth : List ℕ
  pub empty : List ℕ

-- a set of the code as plain data
abbrev pub bar_data : BarSet → BarData
bar_data s = record {
  full = s.full.now;
  seven_eighths = s.seven_eighths.now;
  three_quarters = s.three_quarters.now;
  five_eighths = s.five_eighths.now;
  half = s.half.now;
  three_eighths = s.three_eighths.now;
  one_quarter = s.one_quarter.now;
  one_eighth = s.one_eighth.now;
  empty = s.empty.now;
}

abbrev bar : (full seven_eighths three_quarters five_eighths half three_eighths one_quarter one_eighth empty : String) → BarData
bar full seven_eighths three_quarters five_eighths half three_eighths one_quarter one_eighth empty = record {
  full = utf8 full;
  seven_eighths = utf8 seven_eighths;
  three_quarters = utf8 three_quarters;
  five_eighths = utf8 five_eighths;
  half = utf8 half;
  three_eighths = utf8 three_eighths;
  one_quarter = utf8 one_quarter;
  one_eighth = utf8 one_eighth;
  empty = utf8 empty;
}

-- a symbol of its own for each eighth
abbrev pub nine_levels : BarData
nine_levels = bar "█" "▇" "▆" "▅" "▄" "▃" "▂" "▁" " "

-- full, half and empty only
abbrev pub three_levels : BarData
three_levels = bar "█" "█" "▄" "▄" "▄" "▄" "▄" " " " "

-- the sets in the order of the constants
abbrev pub bar_sets : List BarData
bar_sets = nine_levels ∷ three_levels ∷ []

-- scrollbars
pub record ScrollbarData : Type 0 where
  pub track : List ℕ
  pub thumb : List ℕ
  pub begin : List ℕ
  pub end : List ℕ

-- a set of the code as plain data
abbrev pub scrollbar_data : ScrollbarSet → ScrollbarData
scrollbar_data s = record { track = s.track.now; thumb = s.thumb.now; begin = s.begin.now; end = s.end.now }

abbrev scrollbar : (track thumb begin end : String) → ScrollbarData
scrollbar track thumb begin end = record { track = utf8 track; thumb = utf8 thumb; begin = utf8 begin; end = utf8 end }

-- the sets by their names: track, thumb, begin and end
abbrev pub double_vertical_scrollbar : ScrollbarData
double_vertical_scrollbar = scrollbar "║" "█" "▲" "▼"

abbrev pub double_horizontal_scrollbar : ScrollbarData
double_horizontal_scrollbar = scrollbar "═" "█" "◄" "►"

abbrev pub vertical_scrollbar : ScrollbarData
vertical_scrollbar = scrollbar "│" "█" "↑" "↓"

abbrev pub horizontal_scrollbar : ScrollbarData
horizontal_scrollbar = scrollbar "─" "█" "←" "→"

-- the sets in the order of the constants
abbrev pub scrollbar_sets : List ScrollbarData
scrollbar_sets = double_vertical_scrollbar ∷ double_horizontal_scrollbar ∷ vertical_scrollbar ∷ horizontal_scrollbar ∷ []
