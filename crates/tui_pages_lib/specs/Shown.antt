-- The part of a cell that is drawn on a page.
use Rattle.std.specs.List.{filter}
use Rattle.std.specs.Prelude.{ℕ, ◌==◌, ◌≤◌, List, length}
use Rattle.tui_line_places.specs.Parts.{EndsInNewline}

abbrev pub newlines : List ℕ → List ℕ
newlines text = filter (λ b. b == 10) text

-- the text consists of at least `lines` text lines, and the last one ends in a newline
pub record AreTextLines (lines : ℕ) (text : List ℕ) : Type 0 where
  pub ended : EndsInNewline text
  pub many : lines ≤ length (newlines text)
