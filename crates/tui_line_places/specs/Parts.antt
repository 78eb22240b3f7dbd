-- A prefix of a text with the same first lines.
use Rattle.std.specs.Prelude.{◌≡◌, ℕ, ◌-◌, ◌<◌, Bool, true, List, [], ◌∷◌, ◌++◌, length, slice_index, take}
use Rattle.tui_cells.specs.declared.style.Style.{Style}
use Rattle.tui_clusters.specs.Printable.{is_printable}
use Rattle.tui_text.specs.declared.alignment.Alignment.{Alignment}
use Rattle.tui_line_places.specs.AfterLine.{wrapped_lines}

-- the first n lines of the two texts are the same
abbrev pub HaveSameLines : ℕ → Bool → ℕ → List ℕ → List ℕ → Type 0
HaveSameLines w trim n text part =
    (style : Style) (alignment : Alignment) → take n (wrapped_lines style alignment w trim part) ≡ take n (wrapped_lines style alignment w trim text)

abbrev pub EndsInNewline : List ℕ → Type 0
EndsInNewline text = (front : List ℕ) × (text ≡ front ++ 10 ∷ [])

-- there is a printable ASCII character on either side of the position
pub record IsBetweenPrintable (text : List ℕ) (place : ℕ) : Type 0 where
  pub before : is_printable (slice_index text (place - 1)) ≡ true
  pub after : is_printable (slice_index text place) ≡ true

-- and the position is inside the text
abbrev pub EndsBetweenPrintable : List ℕ → ℕ → Type 0
EndsBetweenPrintable text place = (0 < place) × (place < length text) × IsBetweenPrintable text place
