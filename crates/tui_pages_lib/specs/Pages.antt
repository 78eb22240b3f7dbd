-- Records, each with a number of lines, cut into pages of `room` lines. A list of heights represents the records.
use Rattle.std.specs.Prelude.{ℕ, ◌≡◌, ◌+◌, ◌-◌, ◌<◌, ◌≤◌, ⊤, List, [], ◌∷◌, length, map, sum_by, flat_map, drop, slice_index, All}
use Rattle.std.specs.List.{AllAdjacentBelow, range_with_len}
use Rattle.tui_pages_lib.specs.declared.piece.Piece.{Piece}

-- the number of lines of a piece
abbrev pub size_of : Piece → ℕ
size_of p = p.to - p.from

-- the number of lines of a page
abbrev pub lines_on : List Piece → ℕ
lines_on page = sum_by size_of page

-- the lines of a piece, each as the index of its record and its own number
abbrev pub lines_of : Piece → List (ℕ × ℕ)
lines_of p = map (λ line. (p.place, line)) (range_with_len p.from (size_of p))

-- each record as one piece; the first record has this index
abbrev pub wholes_from : ℕ → List ℕ → List Piece
wholes_from place [] = []
wholes_from place (height ∷ heights) =
    record { place = place; from = 0; to = height } ∷ wholes_from (place + 1) heights

-- each record in one piece
abbrev pub wholes : List ℕ → List Piece
wholes heights = wholes_from 0 heights

-- the pieces of all pages, one after another
abbrev pub all_pieces : List (List Piece) → List Piece
all_pieces pages = flat_map (λ page. page) pages

-- the height of a piece's record
abbrev pub height_of : List ℕ → Piece → ℕ
height_of heights p = slice_index heights p.place

-- A piece has at least one line. A record that fits on a page is one piece. Each piece of a taller record except its
-- last one has `room` lines.
pub record IsPiece (heights : List ℕ) (room : ℕ) (p : Piece) : Type 0 where
  pub some : p.from < p.to
  pub whole : height_of heights p ≤ room → (p.from ≡ 0) × (p.to ≡ height_of heights p)
  pub full : room < height_of heights p → p.to < height_of heights p → size_of p ≡ room

-- A page has at most `room` lines. A record that is taller than a page starts only as the first piece of a page.
pub record IsPage (heights : List ℕ) (room : ℕ) (page : List Piece) : Type 0 where
  pub within : lines_on page ≤ room
  pub first : All (λ p. p.from ≡ 0 → height_of heights p ≤ room) (drop 1 page)

-- a page ends before a record only if the record is taller than the room that is left on the page
abbrev pub EndsOnlyIfFull : List ℕ → ℕ → List Piece → List Piece → Type 0
EndsOnlyIfFull heights room page [] = ⊤
EndsOnlyIfFull heights room page (p ∷ next) = p.from ≡ 0 → room < lines_on page + height_of heights p

-- The pieces of all pages give the lines of each record, with the records in order. If there are records, each page has
-- a piece. Otherwise there is one page without pieces.
pub record ArePages (heights : List ℕ) (room : ℕ) (pages : List (List Piece)) : Type 0 where
  pub lines : flat_map lines_of (all_pieces pages) ≡ flat_map lines_of (wholes heights)
  pub each_piece : All (IsPiece heights room) (all_pieces pages)
  pub each_page : All (IsPage heights room) pages
  pub ends : AllAdjacentBelow (EndsOnlyIfFull heights room) pages (length pages)
  pub some : 0 < length heights → All (λ page. 0 < length page) pages
  pub none : length heights ≡ 0 → pages ≡ [] ∷ []

-- pages that keep each record whole, in order and within the room
pub record KeepWhole (heights : List ℕ) (room : ℕ) (pages : List (List Piece)) : Type 0 where
  pub whole : all_pieces pages ≡ wholes heights
  pub within : All (λ page. lines_on page ≤ room) pages
