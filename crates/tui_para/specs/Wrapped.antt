-- How a list of graphemes is wrapped into lines.
use Rattle.std.specs.Prelude.{
  ◌≡◌,
  ◌≢◌,
  ℕ,
  ◌-◌,
  ◌<◌,
  ◌≤◌,
  ◌⊎◌,
  Bool,
  true,
  false,
  if◌then◌else◌,
  not,
  nat_le,
  All,
  List,
  [],
  ◌∷◌,
  ◌++◌,
  sum_by,
  filter,
}
use Rattle.tui_para.specs.Rule.{Rule, ends_piece}

-- what comes before the first grapheme that passes the test
abbrev pub up_to : {A : Type 0} → (A → Bool) → List A → List A
up_to test [] = []
up_to test (x ∷ xs) = if test x then [] else x ∷ up_to test xs

-- the whitespace at the beginning, with the piece of a word after it if there is one
abbrev pub next_piece : {A : Type 0} → Rule A → List A → List A
next_piece rule [] = []
next_piece rule (x ∷ xs) = if rule.blank x then x ∷ next_piece rule xs else x ∷ up_to (ends_piece rule) xs

-- the list without the whitespace at its beginning
abbrev pub without_blanks : {A : Type 0} → (A → Bool) → List A → List A
without_blanks blank [] = []
without_blanks blank (x ∷ xs) = if blank x then without_blanks blank xs else x ∷ xs

-- what is left after a break that leaves some room: without the longest run of whitespace that fits the room, and
-- without one more whitespace grapheme
abbrev pub after_break : {A : Type 0} → Rule A → ℕ → List A → List A
after_break rule room [] = []
after_break rule room (x ∷ xs) =
    if rule.blank x then (if nat_le (rule.size x) room then after_break rule (room - rule.size x) xs else xs) else x ∷ xs

-- whether the grapheme is not whitespace
abbrev pub no_blank : {A : Type 0} → (A → Bool) → A → Bool
no_blank blank x = not (blank x)

-- whether the last grapheme passes the test, or `so_far` if there is none
abbrev pub ends_in : {A : Type 0} → (A → Bool) → Bool → List A → Bool
ends_in test so_far [] = so_far
ends_in test so_far (x ∷ xs) = ends_in test (test x) xs

-- whether the first grapheme passes the test
abbrev pub begins : {A : Type 0} → (A → Bool) → List A → Bool
begins test [] = false
begins test (x ∷ xs) = test x

-- the first grapheme is wider than the room
abbrev pub IsNextWider : {A : Type 0} → (A → ℕ) → ℕ → List A → Type 0
IsNextWider size room [] = ⊥
IsNextWider size room (x ∷ xs) = room < size x

-- The line ends with a word. What follows begins with a grapheme that passes the test, and is wider than the room up to
-- the end of its next piece.
pub record BreaksBefore {A : Type 0} (rule : Rule A) (test : A → Bool) (room : ℕ) (line after : List A) : Type 0 where
  pub word_before : ends_in (no_blank rule.blank) false line ≡ true
  pub next : begins test after ≡ true
  pub too_wide : room < sum_by rule.size (next_piece rule after)

-- a line is broken before whitespace
abbrev pub IsSoftBreak : {A : Type 0} → Rule A → ℕ → List A → List A → Type 0
IsSoftBreak rule room line after = BreaksBefore rule rule.blank room line after

-- a line is broken where a word may be split
abbrev pub IsHyphenBreak : {A : Type 0} → Rule A → ℕ → List A → List A → Type 0
IsHyphenBreak rule room line after = BreaksBefore rule rule.split room line after

-- the line is whitespace and then a part of one piece, and the next grapheme is wider than the room
pub record IsHardBreak {A : Type 0} (rule : Rule A) (room : ℕ) (line after : List A) : Type 0 where
  pub one_piece : next_piece rule line ≡ line
  pub too_wide : IsNextWider rule.size room after

-- a line breaks in one of the three ways before what is left
abbrev pub Breaks : {A : Type 0} → Rule A → ℕ → List A → List A → Type 0
Breaks rule room line after = IsSoftBreak rule room line after ⊎ (IsHyphenBreak rule room line after ⊎ IsHardBreak rule room line after)

-- a line that is not too wide, and that has all that is left or breaks before the rest
pub record IsLine {A : Type 0} (rule : Rule A) (line after : List A) : Type 0 where
  pub fits : sum_by rule.size line ≤ rule.width
  pub breaks : (after ≡ []) ⊎ Breaks rule (rule.width - sum_by rule.size line) line after

-- where a line begins: with `trim`, after the whitespace at the beginning
abbrev pub line_start : {A : Type 0} → (A → Bool) → Bool → List A → List A
line_start blank trim xs = if trim then without_blanks blank xs else xs

-- the first line of the graphemes is `line`, and `rest` is left for the lines after it
pub record IsNextLine {A : Type 0} (rule : Rule A) (xs line rest : List A) : Type 0 where
  pub after : List A
  pub joined : line_start rule.blank rule.trim xs ≡ line ++ after
  pub line_is : IsLine rule line after
  pub rest_is : rest ≡ after_break rule (rule.width - sum_by rule.size line) after

-- the graphemes have these lines: there is a further line exactly if something is left
abbrev pub HasLines : {A : Type 0} → Rule A → List A → List (List A) → Type 0
HasLines rule xs [] = xs ≡ []
HasLines {A} rule xs (line ∷ lines) =
    (xs ≢ []) × (rest : List A) × IsNextLine rule xs line rest × HasLines rule rest lines

-- the graphemes that are not wider than w
abbrev pub not_wider : {A : Type 0} → (A → ℕ) → ℕ → List A → List A
not_wider size w xs = filter (λ x. nat_le (size x) w) xs

-- graphemes of which none is wider than w have these lines: one empty line if there are no graphemes
abbrev pub WrapsKept : {A : Type 0} → Rule A → List A → List (List A) → Type 0
WrapsKept rule xs lines = ((xs ≡ []) × (lines ≡ [] ∷ [])) ⊎ ((xs ≢ []) × HasLines rule xs lines)

-- the lines one after another are the list, except for whitespace before and after each line
abbrev pub LeavesOutBlanks : {A : Type 0} → (A → Bool) → List A → List (List A) → Type 0
LeavesOutBlanks blank xs [] = xs ≡ []
LeavesOutBlanks {A} blank xs (line ∷ lines) =
    (before after rest : List A) × All (λ x. blank x ≡ true) before × All (λ x. blank x ≡ true) after
    × (xs ≡ before ++ (line ++ (after ++ rest))) × LeavesOutBlanks blank rest lines

-- the relation holds for this value and for no other
pub record IsUnique {A : Type 0} (R : A → Type 0) (x : A) : Type 0 where
  pub meets : R x
  pub alone : (y : A) → R y → y ≡ x
