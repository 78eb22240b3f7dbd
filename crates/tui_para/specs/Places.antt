-- Where a line is among graphemes, in numbers of graphemes, and the lines of a list as a function.
use Rattle.std.specs.Prelude.{ℕ, zero, suc, ◌+◌, ◌-◌, Bool, false, if◌then◌else◌, not, ◌&&◌, nat_le, nat_lt, List, [], ◌∷◌, length, take, drop, sum_by}
use Rattle.tui_para.specs.Rule.{Rule, ends_piece}
use Rattle.tui_para.specs.Wrapped.{after_break, line_start}

-- how many whitespace graphemes are at the beginning
abbrev pub blanks_len : {A : Type 0} → (A → Bool) → List A → ℕ
blanks_len blank [] = 0
blanks_len blank (x ∷ xs) = if blank x then suc (blanks_len blank xs) else 0

-- how many whitespace graphemes are before the start of a line
abbrev pub start_len : {A : Type 0} → (A → Bool) → Bool → List A → ℕ
start_len blank trim xs = if trim then blanks_len blank xs else 0

-- how many whitespace graphemes are dropped after a break that leaves `room` columns
abbrev pub dropped_len : {A : Type 0} → (A → Bool) → (A → ℕ) → ℕ → List A → ℕ
dropped_len blank size room [] = 0
dropped_len blank size room (x ∷ xs) = if blank x then suc (if nat_le (size x) room then dropped_len blank size (room - size x) xs else 0) else 0

-- The length of a line that has n graphemes so far and leaves `room` columns. The last piece that has ended in it ends
-- after the first `pieces` graphemes. If a grapheme doesn't fit, the line ends there, or before that grapheme if no
-- piece has ended. `ends` holds for the graphemes before which a piece ends.
abbrev pub goes_on_for : {A : Type 0} → (A → Bool) → (A → Bool) → (A → ℕ) → Bool → ℕ → ℕ → ℕ → List A → ℕ
goes_on_for ends blank size in_word pieces n room [] = n
goes_on_for ends blank size in_word pieces n room (x ∷ xs) =
    let ended = (if in_word && ends x then n else pieces) in
    if nat_le (size x) room then goes_on_for ends blank size (not (blank x)) ended (suc n) (room - size x) xs else
    (if nat_lt 0 ended then ended else n)

-- the end of the last piece that has ended before one of the graphemes
abbrev pub pieces_len : {A : Type 0} → (A → Bool) → (A → Bool) → Bool → ℕ → ℕ → List A → ℕ
pieces_len ends blank in_word pieces n [] = pieces
pieces_len ends blank in_word pieces n (x ∷ xs) = pieces_len ends blank (not (blank x)) (if in_word && ends x then n else pieces) (suc n) xs

-- The length of the line if the grapheme after the first n doesn't fit. It is the end of the last piece that has ended
-- there, or else n.
abbrev pub broken_len : {A : Type 0} → (A → Bool) → (A → Bool) → ℕ → List A → ℕ
broken_len ends blank n xs = let ended = pieces_len ends blank false 0 0 (take (n + 1) xs) in if nat_lt 0 ended then ended else n

-- the length of the line at the beginning
abbrev pub line_len : {A : Type 0} → (A → Bool) → (A → Bool) → (A → ℕ) → ℕ → List A → ℕ
line_len ends blank size w xs = goes_on_for ends blank size false 0 0 w xs

-- the lines of graphemes, at most n of them
abbrev pub lines_of : {A : Type 0} → Rule A → ℕ → List A → List (List A)
lines_of rule zero xs = []
lines_of rule (suc n) [] = []
lines_of rule (suc n) (x ∷ xs) =
    let s = line_start rule.blank rule.trim (x ∷ xs) in
    let k = line_len (ends_piece rule) rule.blank rule.size rule.width s in
    take k s ∷ lines_of rule n (after_break rule (rule.width - sum_by rule.size (take k s)) (drop k s))

-- the lines of graphemes of which none is wider than w: one empty line if there are no graphemes
abbrev pub wrap_kept : {A : Type 0} → Rule A → List A → List (List A)
wrap_kept rule [] = [] ∷ []
wrap_kept rule (x ∷ xs) = lines_of rule (length (x ∷ xs)) (x ∷ xs)
