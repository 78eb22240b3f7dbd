-- The line before the rows of a demonstration.
use Rattle.std.specs.Prelude.{ℕ, List, ◌++◌, codes, decimal}

-- how many items there are, the offset of the list, and the number of lines of the words
abbrev pub demo_line : ℕ → ℕ → ℕ → List ℕ
demo_line n offset lines = codes "items "
    ++ (decimal n ++ (codes " offset " ++ (decimal offset ++ (codes " lines " ++ (decimal lines ++ codes "\n")))))
