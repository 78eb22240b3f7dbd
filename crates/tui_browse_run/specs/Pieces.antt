-- A text cut into pieces.
use Rattle.std.specs.Prelude.{
  ◌≡◌,
  ◌≢◌,
  ◌⊎◌,
  ◌==◌,
  ℕ,
  ◌+◌,
  ◌-◌,
  ◌<◌,
  ◌≤◌,
  Bool,
  List,
  [],
  ◌∷◌,
  ◌++◌,
  codes,
  decimal,
  length,
  map,
  take,
  slice_index,
  Result,
  Ok,
  Err,
  Vec,
}
use Rattle.std.specs.List.{before_first, count_by, flat_map}
use Rattle.std.specs.Str.{IsCharBoundary}
use Rattle.std.specs.declared.alloc.Global.{Global}
use Rattle.tui_browse_run.specs.declared.piece.TextPiece.{TextPiece}
use Rattle.tui_pager_lib.specs.Entry.{EntryData}
use Rattle.tui_program.specs.declared.stop.Stop.{Stop}
use Rattle.tui_program.specs.declared.stop.Stop.TheVariants as stop

-- ---- one piece

abbrev pub is_line_feed : ℕ → Bool
is_line_feed b = b == 10

-- the number of line feeds in a text
abbrev pub line_feeds : List ℕ → ℕ
line_feeds text = count_by is_line_feed text

-- The first n bytes of a text are at most what a piece may have. Their lines are counted as the line feeds before the
-- last byte, plus one.
pub record Fits (text : List ℕ) (n : ℕ) : Type 0 where
  pub some : 0 < n
  pub within : n ≤ length text
  pub few : line_feeds (take (n - 1) text) + 1 ≤ 1000
  pub short : n ≤ 65536

-- and a line ends after them
pub record FitsLines (text : List ℕ) (n : ℕ) : Type 0 where
  pub fits : Fits text n
  pub ends : (slice_index text (n - 1) ≡ 10) ⊎ (n ≡ length text)

-- and a character ends after them
pub record FitsChars (text : List ℕ) (n : ℕ) : Type 0 where
  pub fits : Fits text n
  pub ends : IsCharBoundary text n

-- the greatest number for which a property holds
pub record IsGreatest (P : ℕ → Type 0) (n : ℕ) : Type 0 where
  pub holds : P n
  pub greatest : (m : ℕ) → P m → m ≤ n

-- The first piece of a text is the longest allowed one that ends with a line. If none ends with a line, it is the
-- longest allowed one that ends with a character.
abbrev pub IsPieceEnd : List ℕ → ℕ → Type 0
IsPieceEnd text n = IsGreatest (FitsLines text) n ⊎ (((m : ℕ) → FitsLines text m → ⊥) × IsGreatest (FitsChars text) n)

-- ---- all pieces

-- a piece as plain data: the number of its first line, and its text
pub record PieceData : Type 0 where
  pub line : ℕ
  pub body : List ℕ

abbrev pub piece_data : TextPiece → PieceData
piece_data piece = record { line = piece.line; body = piece.body.now }

-- the first pieces of a text, the number of the line that continues or begins after them, and the rest of the text
pub data ArePieces (text : List ℕ) : List PieceData → ℕ → List ℕ → Type 0 where
  no_pieces : ArePieces text [] 1 text
  one_more : (pieces : List PieceData) (line : ℕ) (body rest : List ℕ) → ArePieces text pieces line (body ++ rest) →
      IsPieceEnd (body ++ rest) (length body)
      → ArePieces text (pieces ++ record { line = line; body = body } ∷ []) (line + line_feeds body) rest

-- all pieces of a text, at most a thousand; joined they are the text
pub record AreAllPieces (text : List ℕ) (pieces : List PieceData) : Type 0 where
  pub line : ℕ
  pub are : ArePieces text pieces line []
  pub few : length pieces ≤ 1000
  pub joined : flat_map (λ p. p.body) pieces ≡ text

-- a text with more pieces: something is left after the first thousand
pub record HasMorePieces (text : List ℕ) : Type 0 where
  pub pieces : List PieceData
  pub line : ℕ
  pub rest : List ℕ
  pub are : ArePieces text pieces line rest
  pub full : length pieces ≡ 1000
  pub more : rest ≢ []

-- ---- as entries

-- the text before the first line feed, or all of it if there is none
abbrev pub first_line : List ℕ → List ℕ
first_line text = before_first is_line_feed text

-- a piece's title: the number of its first line, a space, and that line, as far as it is in the piece
abbrev pub title_of : PieceData → List ℕ
title_of piece = decimal piece.line ++ (codes " " ++ first_line piece.body)

-- a piece as an entry
abbrev pub entry_of : PieceData → EntryData
entry_of piece = record { title = title_of piece; body = piece.body }

-- what cutting a text gives: all its pieces, or a stop: there are too many, or memory ran out
abbrev pub IsCut : {R : Type 0} → List ℕ → Result (Vec TextPiece Global) (Stop R) → Type 0
IsCut text (Ok pieces) = AreAllPieces text (map piece_data pieces.items)
IsCut text (Err stop.TooLong) = HasMorePieces text
IsCut text (Err stop.NoMemory) = Unit {0}
IsCut text (Err other) = ⊥
