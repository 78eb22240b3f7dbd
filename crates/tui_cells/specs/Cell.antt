-- What a cell shows, and the changes of a cell.
use Rattle.std.specs.Prelude.{◌≡◌, ℕ, ◌/◌, ◌<◌, ◌≤◌, bit_or, List, [], ◌∷◌, length, unwrap_or}
use Rattle.tui_cells.specs.declared.style.Style.{Style}
use Rattle.tui_cells.specs.declared.color.Color.{Color}
use Rattle.tui_cells.specs.declared.color.Color.TheVariants.{Reset}
use Rattle.tui_cells.specs.declared.color.Color.TheVariants as colours
use Rattle.tui_cells.specs.declared.merge_strategy.MergeStrategy.{MergeStrategy}
use Rattle.tui_cells.specs.Merging.{merged}
use Rattle.tui_cells.specs.Style.{without}

-- a symbol, which is a UTF-8 string, the two colours, and the bits of the modifiers
pub record Look : Type 0 where
  pub symbol : List ℕ
  pub fg : Color
  pub bg : Color
  pub modifier : ℕ

-- the space, U+0020
abbrev pub space : List ℕ
space = 32 ∷ []

-- a blank cell: one space, both colours Reset, no modifier
abbrev pub blank : Look
blank = record { symbol = space; fg = Reset; bg = Reset; modifier = 0 }

-- like a blank cell except for the symbol: both colours Reset, no modifier
abbrev pub IsUnstyled : Look → Type 0
IsUnstyled c = record c { symbol = space } ≡ blank

-- the symbol that a string sets: an empty string sets the space
abbrev pub symbol_of : List ℕ → List ℕ
symbol_of [] = space
symbol_of (b ∷ bs) = b ∷ bs

-- what a cell can show: any string but the empty one
abbrev pub IsSymbol : List ℕ → Type 0
IsSymbol text = 0 < length text

-- a symbol that is stored in the cell, so that setting it does not allocate
abbrev pub IsAllocationFree : List ℕ → Type 0
IsAllocationFree text = length text ≤ 8

-- a change of one cell: a symbol is set, a style is set, the cell is made blank, a symbol is joined with the one that
-- is there, or the cell is dimmed, which adds DIM and halves the background
pub data Edit : Type 0 where
  write : List ℕ → Edit
  set_style : Style → Edit
  wipe : Edit
  merge : MergeStrategy → List ℕ → Edit
  dim : Edit

-- the look with the colours that the style gives, and with its modifiers added and then removed
abbrev pub restyled : Style → Look → Look
restyled s c = record {
  symbol = c.symbol;
  fg = unwrap_or s.fg c.fg;
  bg = unwrap_or s.bg c.bg;
  modifier = without (bit_or c.modifier s.add_modifier.bits) s.sub_modifier.bits;
}

-- half of red, green and blue, each rounded down; a colour that is not given by these becomes Black
abbrev pub half : Color → Color
half (colours.Rgb r g b) = colours.Rgb (r / 2) (g / 2) (b / 2)
half _ = colours.Black

-- the cell after a change
abbrev pub edited : Edit → Look → Look
edited (write text) c = record c { symbol = symbol_of text }
edited (set_style s) c = restyled s c
edited wipe c = blank
edited (merge strategy text) c = record c { symbol = symbol_of (merged strategy c.symbol text) }
edited dim c = record c { bg = half c.bg; modifier = bit_or c.modifier 2 }
