-- How the lines of graphemes are counted while they are read one by one, from numbers only.
use Rattle.std.specs.Prelude.{ℕ, ◌+◌, ◌≤◌, Bool, true, false, if◌then◌else◌, not, ◌&&◌, nat_lt, List, [], ◌∷◌, Option, None, Some, length, sum_by}
use Rattle.tui_cells.specs.declared.style.Style.{Style}
use Rattle.tui_para.specs.Hyphens.{wrap}
use Rattle.tui_para.specs.Rule.{Rule, ends_piece}
use Rattle.tui_para.specs.declared.wrap.Wrap.{Wrap}
use Rattle.tui_text.specs.Graphemes.{line_graphemes}
use Rattle.tui_text.specs.Line.{LineData}
use Rattle.tui_text.specs.Text.{TextData}
use Rattle.tui_clusters.specs.Width.{saturated}
use Rattle.tui_para.specs.declared.counting.counter.Counter.{Counter}
use Rattle.tui_para.specs.declared.counting.line_end.LineEnd.{LineEnd}
use Rattle.tui_para.specs.declared.counting.line_end.LineEnd.TheVariants.{BeforeWord, WithinWord, AfterBlank}

-- nothing is read yet
abbrev pub no_lines : Counter
no_lines = record { lines = 0; some = false; begun = false; in_word = false; used = 0; word = 0 }

-- the line under way is not wider than w, and its last piece is not wider than the line
abbrev pub Fits : ℕ → Counter → Type 0
Fits w c = (c.used ≤ w) × (c.word ≤ c.used)

-- a piece of a word has ended in the line
abbrev pub end_word : Counter → Counter
end_word c = record c { begun = true; in_word = false; word = 0 }

-- the line ends, and nothing comes after it yet
abbrev pub end_line : Counter → Counter
end_line c = record no_lines { lines = c.lines + 1 }

-- the line ends before the word that is under way
abbrev pub break_before_word : Counter → Counter
break_before_word c = record c { lines = c.lines + 1; some = true; begun = false; used = c.word }

-- whitespace is added to the line
abbrev pub add_blank : Counter → ℕ → Counter
add_blank c s = record c { some = true; used = c.used + s }

-- whitespace is dropped at a line's beginning; only that it was there is kept
abbrev pub skip_blank : Counter → Counter
skip_blank c = record c { some = true }

-- one more grapheme of the word under way
abbrev pub add_letter : Counter → ℕ → Counter
add_letter c s = record c { some = true; in_word = true; used = c.used + s; word = c.word + s }

-- whether the line has no room for a width s
abbrev pub overflows : ℕ → Counter → ℕ → Bool
overflows w c s = nat_lt w (c.used + s)

-- the piece of a word under way, if there is one, ends
abbrev pub after_word : Counter → Counter
after_word c = if c.in_word then end_word c else c

-- likewise, but only if a piece ends here
abbrev pub after_piece : Counter → Bool → Counter
after_piece c ends = if ends then after_word c else c

-- whether the grapheme is whitespace before the first word of a line from which leading whitespace is dropped
abbrev pub leaves_out : Bool → Counter → Bool → Bool
leaves_out trim c blank = blank && (trim && not c.begun)

-- Where a line ends if a grapheme is too wide for it. Whitespace: after the grapheme. Otherwise: before its word if
-- another word has ended in the line, else within its word.
abbrev pub end_at : Counter → Bool → LineEnd
end_at c blank = if blank then AfterBlank else (if c.begun then BeforeWord else WithinWord)

-- where the line ends, if it has no room for the grapheme that comes
abbrev pub line_end : ℕ → Bool → Counter → ℕ → Bool → Option LineEnd
line_end w trim c s blank = if leaves_out trim c blank then None else (if overflows w c s then Some (end_at c blank) else None)

-- otherwise the grapheme is added to the line or dropped
abbrev pub read_in : Bool → Counter → ℕ → Bool → Counter
read_in trim c s blank = if leaves_out trim c blank then skip_blank c else (if blank then add_blank c s else add_letter c s)

-- the line has ended in this way, and the grapheme is read
abbrev pub ended_with : ℕ → Counter → ℕ → LineEnd → Counter
ended_with w c s AfterBlank = end_line c
ended_with w c s WithinWord = add_letter (end_line c) s
ended_with w c s BeforeWord = let d = break_before_word c in add_letter (if overflows w d s then end_line d else d) s

-- a grapheme is read: `end` is whether the line ends, and where
abbrev pub read_at : ℕ → Counter → ℕ → Counter → Option LineEnd → Counter
read_at w c s taken None = taken
read_at w c s taken (Some end) = ended_with w c s end

-- reads one more grapheme of width s: `ends` is whether it ends a piece before it, `blank` whether it is whitespace
abbrev pub step : ℕ → Bool → Counter → ℕ → Bool → Bool → Counter
step w trim c s ends blank = let d = after_piece c ends in read_at w d s (read_in trim d s blank) (line_end w trim d s blank)

-- what is left after a line that ends in this way: from the beginning of the word under way, from the grapheme, or from
-- after the grapheme
abbrev pub left_from : {A : Type 0} → LineEnd → A → A → A → A
left_from BeforeWord word here after = word
left_from WithinWord word here after = here
left_from AfterBlank word here after = after

-- reads all graphemes of a list, one by one
abbrev pub steps : {A : Type 0} → Rule A → Counter → List A → Counter
steps rule c [] = c
steps rule c (x ∷ xs) = steps rule (step rule.width rule.trim c (rule.size x) (ends_piece rule x) (rule.blank x)) xs

-- the number of lines, including the one under way
abbrev pub counted : Counter → ℕ
counted c = c.lines + (if c.some then 1 else 0)

-- the same counter, with the number of lines saturated at the greatest 64-bit number
abbrev pub saturated_count : Counter → Counter
saturated_count c = record c { lines = saturated c.lines }

-- how many lines a text line is wrapped into
abbrev pub wrapped_len : ℕ → Wrap → Style → LineData → ℕ
wrapped_len w way base line = length (wrap w way (line_graphemes base line))

-- how many lines the text's lines are wrapped into together
abbrev pub wrapped_text_len : ℕ → Wrap → TextData → ℕ
wrapped_text_len w way text = sum_by (wrapped_len w way text.style) text.lines
