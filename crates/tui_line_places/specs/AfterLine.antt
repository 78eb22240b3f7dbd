-- The lines of a text from one of them on.
use Rattle.std.specs.Prelude.{◌≡◌, ℕ, ◌<◌, ◌≤◌, Bool, List, ◌++◌, drop, length, slice_index}
use Rattle.std.specs.Str.{IsCharBoundary}
use Rattle.tui_cells.specs.declared.style.Style.{Style}
use Rattle.tui_text.specs.Text.{raw_text}
use Rattle.tui_text.specs.declared.alignment.Alignment.{Alignment}
use Rattle.tui_para.specs.Hyphens.{at_blanks}
use Rattle.tui_para.specs.Lines.{GlyphLine}
use Rattle.tui_para.specs.WrappedText.{wrap_text}

-- the lines into which a text wraps, in a style and an alignment, if lines break at whitespace only
abbrev pub wrapped_lines : Style → Alignment → ℕ → Bool → List ℕ → List GlyphLine
wrapped_lines style alignment w trim text = wrap_text w (at_blanks trim) alignment (record (raw_text text) { style = style })

-- the text wraps into n lines
abbrev pub HasLineCount : ℕ → Bool → List ℕ → ℕ → Type 0
HasLineCount w trim text n = (style : Style) (alignment : Alignment) → length (wrapped_lines style alignment w trim text) ≡ n

-- the text wraps into one line
abbrev pub IsOneLine : ℕ → Bool → List ℕ → Type 0
IsOneLine w trim text = HasLineCount w trim text 1

-- the text wraps into at most n lines
abbrev pub HasAtMostLines : ℕ → Bool → List ℕ → ℕ → Type 0
HasAtMostLines w trim text n = (style : Style) (alignment : Alignment) → length (wrapped_lines style alignment w trim text) ≤ n

-- the text ends with `rest`, whose lines are those of the text from line k on
pub record IsFromLine (w : ℕ) (trim : Bool) (k : ℕ) (text rest : List ℕ) : Type 0 where
  pub front : List ℕ
  pub whole : text ≡ front ++ rest
  pub lines : (style : Style) (alignment : Alignment) → wrapped_lines style alignment w trim rest ≡ drop k (wrapped_lines style alignment w trim text)

-- `rest` is the text after its first line
abbrev pub IsAfterLine : ℕ → Bool → List ℕ → List ℕ → Type 0
IsAfterLine w trim text rest = IsFromLine w trim 1 text rest

-- the text from this byte offset on has the lines from line k on
pub record BeginsLine (w : ℕ) (trim : Bool) (text : List ℕ) (k place : ℕ) : Type 0 where
  pub boundary : IsCharBoundary text place
  pub from : IsFromLine w trim k text (drop place text)

-- a byte offset for each line
pub record AreLineOffsets (w : ℕ) (trim : Bool) (text places : List ℕ) : Type 0 where
  pub count : HasLineCount w trim text (length places)
  pub each : (k : ℕ) → k < length places → BeginsLine w trim text k (slice_index places k)
