-- Shares in percent, and the columns that they fill.
use Rattle.std.specs.Prelude.{ℕ, ◌+◌, ◌*◌, ◌/◌, ◌%◌, ◌==◌, ◌&&◌, ◌||◌, nat_lt, Bool, List, [], ◌++◌, codes, decimal, if◌then◌else◌}

-- num of den in percent, rounded to the nearest number, halves up
abbrev pub percent_of : ℕ → ℕ → ℕ
percent_of num den = (200 * num + den) / (2 * den)

-- a quotient, rounded to the nearest number, halves to the even one
abbrev pub half_even : ℕ → ℕ → ℕ
half_even a b = if nat_lt b (2 * (a % b)) || ((2 * (a % b) == b) && (a / b % 2 == 1)) then a / b + 1 else a / b

-- a percentage with a percent sign, padded to three digits by spaces before it
abbrev pub padded : ℕ → List ℕ
padded n = (if nat_lt n 100 then codes " " else []) ++ (if nat_lt n 10 then codes " " else []) ++ decimal n ++ codes "%"

-- a share in percent, rounded to the nearest number, halves to the even one
abbrev pub percent_label : ℕ → ℕ → List ℕ
percent_label num den = padded (half_even (100 * num) den)

-- how many columns of a width are filled: only whole ones, or rounded
abbrev pub fill_of : Bool → ℕ → ℕ → ℕ → ℕ
fill_of is_exact width num den = if is_exact then width * num / den else (2 * (width * num) + den) / (2 * den)

-- how many eighths of the column after the whole ones are filled, rounded
abbrev pub eighths_of : ℕ → ℕ → ℕ → ℕ
eighths_of width num den = (16 * (width * num % den) + den) / (2 * den)
