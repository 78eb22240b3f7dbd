-- The next grapheme of a text's first line.
use Rattle.std.specs.Prelude.{◌≡◌, ◌<◌, ◌≤◌, ℕ, Bool, List, [], ◌∷◌, ◌++◌, length}
use Rattle.std.specs.Str.{IsUtf8}
use Rattle.tui_clusters.specs.Blank.{is_blank_text}
use Rattle.tui_clusters.specs.Width.{width_of}
use Rattle.tui_line_places.specs.Places.{GoesOnInLine, text_after_line, shown_in}
use Rattle.tui_line_places.specs.declared.graphemes.Next.{Next}
use Rattle.tui_line_places.specs.declared.graphemes.Next.TheVariants as next

-- nothing of the first line is shown before `rest`
pub record IsHiddenUpTo (w : ℕ) (text rest : List ℕ) : Type 0 where
  pub goes_on : GoesOnInLine text rest
  pub shown : shown_in w text ≡ shown_in w rest
  pub no_longer : length rest ≤ length text

-- the next cluster that is shown in lines of w columns: its width, whether it is whitespace, and the text after it
pub record IsNextShown (w : ℕ) (text : List ℕ) (columns : ℕ) (is_blank : Bool) (rest : List ℕ) : Type 0 where
  pub cluster : List ℕ
  pub shown : shown_in w text ≡ cluster ∷ shown_in w rest
  pub width : columns ≡ width_of cluster
  pub blank : is_blank ≡ is_blank_text cluster
  pub goes_on : GoesOnInLine text rest
  pub shorter : length rest < length text

-- no further cluster of the line is shown, and `rest` is the text after the line
pub record IsEndOfLine (w : ℕ) (text rest : List ℕ) : Type 0 where
  pub front : List ℕ
  pub whole : text ≡ front ++ rest
  pub utf8 : IsUtf8 rest
  pub shown : shown_in w text ≡ []
  pub after : text_after_line text ≡ rest

-- a grapheme that is shown, or the end of the line with the text after it
abbrev pub IsNextOf : ℕ → List ℕ → Next → Type 0
IsNextOf w text (next.Grapheme g) = IsNextShown w text g.width g.blank g.after.now
IsNextOf w text (next.EndOfLine rest) = IsEndOfLine w text rest.now
