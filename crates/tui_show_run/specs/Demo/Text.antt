-- The words of a demonstration.
use Rattle.std.specs.Prelude.{ℕ, zero, suc, ◌+◌, ◌*◌, ◌%◌, List, [], ◌∷◌, map}
use Rattle.std.specs.List.{join_with_byte, range_with_len, repeat}

-- the letter with the number i mod 26, from a on
abbrev pub letter : ℕ → ℕ
letter i = 97 + i % 26

-- the number of letters of word i of n
abbrev pub times : ℕ → ℕ → ℕ
times n i = 1 + (7 * i + n) % 9

-- word i of n: its letter, repeated
abbrev pub word : ℕ → ℕ → List ℕ
word n i = repeat (times n i) (letter i ∷ [])

-- the words before word k, with a space between each two
abbrev pub words_before : ℕ → ℕ → List ℕ
words_before n k = join_with_byte 32 (map (word n) (range_with_len 0 k))

-- the words 0 to n - 1
abbrev pub demo_text : ℕ → List ℕ
demo_text n = words_before n n

-- what is before word i: a space, but nothing before the first word
abbrev pub gap : ℕ → List ℕ
gap zero = []
gap (suc i) = 32 ∷ []
