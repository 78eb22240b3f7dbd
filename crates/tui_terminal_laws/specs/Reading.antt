-- Bytes of commands have one reading, as statements.
use Rattle.std.specs.Prelude.{◌≡◌, ℕ, ◌+◌, ◌^◌, ◌<◌, true, List, [], ◌∷◌, ◌++◌, All, flat_map}
use Rattle.tui_cells.specs.declared.color.Color.{Color}
use Rattle.tui_cells.specs.declared.color.Color.TheVariants.{Rgb, Indexed}
use Rattle.tui_terminal_model.specs.declared.widths.KnownWidths.{KnownWidths}
use Rattle.tui_terminal_model.specs.Sends.{IsSafe}
use Rattle.tui_terminal_model.specs.Encoding.{encoding}
use Rattle.tui_terminal_model.specs.Symbols.{has_known_width}
use Rattle.tui_terminal_model.specs.Terminal.{Setting, mark, front, back, Command, place, across, paint, add, print}

-- the numbers of a colour
unfoldable pub color_numbers : Color → List ℕ
color_numbers (Rgb red green blue) = red ∷ green ∷ blue ∷ []
color_numbers (Indexed n) = n ∷ []
color_numbers c = []

-- The numbers of a command fit in 64 bits, as all numbers do that programs count with.
abbrev pub IsSmallSetting : Setting → Type 0
IsSmallSetting (mark k) = Unit {0}
IsSmallSetting (front c) = All (λ n. n < 2 ^ 64) (color_numbers c)
IsSmallSetting (back c) = All (λ n. n < 2 ^ 64) (color_numbers c)

abbrev pub IsSmall : Command → Type 0
IsSmall (place x y) = (x + 1 < 2 ^ 64) × (y + 1 < 2 ^ 64)
IsSmall (across x) = x + 1 < 2 ^ 64
IsSmall (paint ss) = All IsSmallSetting ss
IsSmall (add s ss) = All IsSmallSetting (s ∷ ss)
IsSmall _ = Unit {0}

-- the commands, with adjacent prints joined into one
abbrev pub print_before : List ℕ → List Command → List Command
print_before symbol (print next ∷ cs) = print (symbol ++ next) ∷ cs
print_before symbol cs = print symbol ∷ cs

abbrev pub joined : List Command → List Command
joined [] = []
joined (print symbol ∷ cs) = print_before symbol (joined cs)
joined (c ∷ cs) = c ∷ joined cs

-- Only one list of commands has these bytes, except for where one of two adjacent prints ends and the next begins.
abbrev pub HasOneReading : Type 0
HasOneReading = (cs ds : List Command) → All IsSafe cs → All IsSafe ds → All IsSmall cs → All IsSmall ds →
    flat_map encoding cs ≡ flat_map encoding ds → joined cs ≡ joined ds

-- If every symbol has a known width, that is determined too.
abbrev pub PrintsKnownWidth : KnownWidths → Command → Type 0
PrintsKnownWidth widths (print symbol) = has_known_width widths symbol ≡ true
PrintsKnownWidth widths _ = Unit {0}

abbrev pub KnownWidthsHaveOneReading : Type 0
KnownWidthsHaveOneReading = (widths : KnownWidths) (cs ds : List Command) → All IsSafe cs → All IsSafe ds → All IsSmall cs → All IsSmall ds →
    All (PrintsKnownWidth widths) cs → All (PrintsKnownWidth widths) ds → flat_map encoding cs ≡ flat_map encoding ds → cs ≡ ds
