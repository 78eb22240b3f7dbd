-- Where records continue from page to page.
use Rattle.std.specs.Prelude.{
  ℕ,
  ◌≡◌,
  ◌+◌,
  ◌-◌,
  ◌*◌,
  ◌<◌,
  ◌≤◌,
  ◌/◌,
  ◌%◌,
  ◌⊎◌,
  true,
  List,
  [],
  length,
  drop,
  take,
  nat_lt,
  Option,
  Some,
  option_and_then,
  slice_get,
  slice_index,
}
use Rattle.std.specs.List.{filter}
use Rattle.std.specs.Str.{IsCharBoundary}
use Rattle.tui_layout.specs.declared.segment.Segment.{Segment}
use Rattle.tui_para.specs.Hyphens.{at_blanks}
use Rattle.tui_para.specs.Lines.{GlyphLine}
use Rattle.tui_para.specs.WrappedText.{wrap_text}
use Rattle.tui_pages_lib.specs.Pages.{all_pieces}
use Rattle.tui_pages_lib.specs.declared.piece.Piece.{Piece}
use Rattle.tui_text.specs.Text.{raw_text}
use Rattle.tui_text.specs.declared.alignment.Alignment.TheVariants.{Left}

-- the lines of a cell at a width
abbrev pub cell_lines : ℕ → List ℕ → List GlyphLine
cell_lines width cell = wrap_text width (at_blanks true) Left (raw_text cell)

-- From this byte on the cell continues with a line: the text from there on is wrapped into the remaining lines. If no
-- character starts at the byte, no line is left.
pub record ContinuesFrom (width line : ℕ) (cell : List ℕ) (start : ℕ) : Type 0 where
  pub lines : IsCharBoundary cell start → cell_lines width (drop start cell) ≡ drop line (cell_lines width cell)
  pub none : (IsCharBoundary cell start → ⊥) → drop line (cell_lines width cell) ≡ []

-- how many pieces are before a page
abbrev pub pieces_before : List (List Piece) → ℕ → ℕ
pieces_before pages at = length (all_pieces (take at pages))

-- the pieces that continue a record, after its first piece
abbrev pub continued_pieces : List Piece → List Piece
continued_pieces pieces = filter (λ p. nat_lt 0 p.from) pieces

-- the text of a record in a column, if there is one
abbrev pub cell_at : List (List (List ℕ)) → ℕ → ℕ → Option (List ℕ)
cell_at records place i = option_and_then (λ cells. slice_get cells i) (slice_get records place)

-- from this byte on a piece continues its record's cell in column i
abbrev pub StartsAt : List Segment → List (List (List ℕ)) → Piece → ℕ → ℕ → Type 0
StartsAt places records piece i start =
    (place : Segment) (cell : List ℕ) → slice_get places i ≡ Some place → cell_at records piece.place i ≡ Some cell →
    0 < place.width → ContinuesFrom place.width piece.from cell start

-- these are such bytes of the pieces that continue a record, piece by piece and column by column
abbrev pub HaveStarts : List Segment → List (List (List ℕ)) → List Piece → List ℕ → Type 0
HaveStarts places records pieces starts =
    (k : ℕ) (piece : Piece) → k < length starts → slice_get (continued_pieces pieces) (k / length places) ≡ Some piece →
    StartsAt places records piece (k % length places) (slice_index starts k)

-- they are those of the first `count` such pieces
pub record HaveRows (places : List Segment) (records : List (List (List ℕ))) (pieces : List Piece) (count : ℕ) (starts : List ℕ) : Type 0 where
  pub known : HaveStarts places records pieces starts
  pub size : length starts ≡ count * length places

-- this piece, if there is one, is the last of the first `count` pieces that continue a record
abbrev pub IsLast : List Piece → ℕ → Option Piece → Type 0
IsLast pieces count before = (b : Piece) → before ≡ Some b → slice_get (continued_pieces pieces) (count - 1) ≡ Some b

-- a byte and a line of a record: those that are known of the piece before, in the same column, or the start of the
-- record
abbrev pub IsKnownStart : Option Piece → ℕ → List ℕ → ℕ → ℕ → ℕ → Type 0
IsKnownStart before columns known record_place start line =
    ((start ≡ 0) × (line ≡ 0)) ⊎
    ((columns ≤ length known) × (b : Piece) × (before ≡ Some b) × (b.place ≡ record_place) × (b.from ≡ line) ×
    (slice_index known (length known - columns) ≡ start))

-- this list is a slice of the other one, from an index on
abbrev pub IsSliceFrom : ℕ → List ℕ → List ℕ → Type 0
IsSliceFrom from starts row =
    (i : ℕ) → i < length row → (from + i < length starts) × (slice_index row i ≡ slice_index starts (from + i))

-- from these bytes on the cells of a record continue with a line, column by column
abbrev pub RowStarts : ℕ → List Segment → List (List ℕ) → List ℕ → Type 0
RowStarts line places cells starts =
    (i : ℕ) (place : Segment) (cell : List ℕ) (start : ℕ) → slice_get places i ≡ Some place → slice_get cells i ≡ Some cell →
    slice_get starts i ≡ Some start → 0 < place.width → ContinuesFrom place.width line cell start
