-- The pages as a function: records are cut into pieces, and pages are filled with them one after another.
use Rattle.std.specs.Prelude.{
  ℕ,
  zero,
  suc,
  ◌≡◌,
  ◌+◌,
  ◌≤◌,
  min,
  nat_lt,
  nat_le,
  List,
  [],
  ◌∷◌,
  ◌++◌,
  length,
  drop,
  slice_range,
  if◌then◌else◌,
}
use Rattle.tui_pages_lib.specs.declared.piece.Piece.{Piece}
use Rattle.tui_pages_lib.specs.Pages.{size_of, lines_on}

-- at most n pieces of a record from a line on: `room` lines each, and the last one what is left
unfoldable pub cut : ℕ → ℕ → ℕ → ℕ → ℕ → List Piece
cut room place height from zero = []
cut room place height from (suc n) =
    let to = min height (from + room) in
    if nat_lt from height then record { place = place; from = from; to = to } ∷ cut room place height to n else []

-- the pieces of all records; the first record has this index
unfoldable pub pieces_from : ℕ → ℕ → List ℕ → List Piece
pieces_from room place [] = []
pieces_from room place (height ∷ heights) = cut room place height 0 height ++ pieces_from room (place + 1) heights

-- a page takes a piece that fits; otherwise it ends before the piece
unfoldable pub fill : ℕ → List Piece → List Piece → List (List Piece)
fill room page [] = page ∷ []
fill room page (p ∷ ps) =
    if nat_le (lines_on page + size_of p) room then fill room (page ++ p ∷ []) ps else page ∷ fill room (p ∷ []) ps

-- the pages of records of these heights
unfoldable pub pages_of : List ℕ → ℕ → List (List Piece)
pages_of heights room = fill room [] (pieces_from room 0 heights)

-- pages that are being filled: those that are complete, and the one that takes pieces
pub record Draft : Type 0 where
  pub ended : List (List Piece)
  pub current : List Piece

-- no complete page, and an empty current page
abbrev pub empty_draft : Draft
empty_draft = record { ended = []; current = [] }

-- a piece is added to the current page, or to a new one if it does not fit
abbrev pub with_piece : ℕ → Draft → Piece → Draft
with_piece room d p =
    if nat_le (lines_on d.current + size_of p) room
    then record { ended = d.ended; current = d.current ++ p ∷ [] }
    else record { ended = d.ended ++ d.current ∷ []; current = p ∷ [] }

-- the pages after a draft takes more pieces
abbrev pub pages_by : ℕ → Draft → List Piece → List (List Piece)
pages_by room d ps = d.ended ++ fill room d.current ps

-- the pages as they are stored: all pieces in one list, and for each page the index of its end in that list
abbrev pub pages_by_ends : ℕ → List ℕ → List Piece → List (List Piece)
pages_by_ends start [] pieces = []
pages_by_ends start (stop ∷ stops) pieces = slice_range pieces start stop ∷ pages_by_ends stop stops pieces

-- the indices of the ends do not fall, and the last one is this
abbrev pub AreEndsUpTo : ℕ → List ℕ → ℕ → Type 0
AreEndsUpTo start [] last = start ≡ last
AreEndsUpTo start (stop ∷ stops) last = (start ≤ stop) × AreEndsUpTo stop stops last

-- how unfinished pages are stored: all pieces in one list, where each complete page ends, and the number of used lines
pub record IsDraft (pieces : List Piece) (ends : List ℕ) (start used : ℕ) : Type 0 where
  pub in_order : AreEndsUpTo 0 ends start
  pub inside : start ≤ length pieces
  pub lines : used ≡ lines_on (drop start pieces)
