-- Pages of a few records.
use Rattle.std.proofs.Common.{◌≡◌, ℕ, [], ◌∷◌, refl}
use Rattle.std.specs.Prelude.{codes}
use Rattle.tui_cells.specs.Rect.{area_of}
use Rattle.tui_cells.specs.Style.{no_style}
use Rattle.tui_pages_lib.specs.declared.piece.Piece.{Piece}
use Rattle.tui_pages_lib.specs.Filling.{cut, pieces_from, fill, pages_of}
use Rattle.tui_pages_lib.specs.Strokes.{right_layers}
use Rattle.tui_text.specs.Setting.{set_layers, styled_text}

abbrev pub piece : ℕ → ℕ → ℕ → Piece
piece place from to = record { place = place; from = from; to = to }

-- three records that fit, two of them on one page
pub some_fit : pages_of (2 ∷ 1 ∷ 1 ∷ []) 2 ≡ (piece 0 0 2 ∷ []) ∷ (piece 1 0 1 ∷ piece 2 0 1 ∷ []) ∷ []
unfolding pages_of pieces_from cut fill
some_fit = refl

-- a record of five lines on pages of two lines, and a record after its last line
pub one_is_taller : pages_of (5 ∷ 1 ∷ []) 2 ≡ (piece 0 0 2 ∷ []) ∷ (piece 0 2 4 ∷ []) ∷ (piece 0 4 5 ∷ piece 1 0 1 ∷ []) ∷ []
unfolding pages_of pieces_from cut fill
one_is_taller = refl

pub none_at_all : pages_of [] 2 ≡ [] ∷ []
unfolding pages_of pieces_from fill
none_at_all = refl

-- the number of the first of twelve pages, in a row of nine columns and in one of two columns
pub number_at_right : right_layers (area_of 0 0 9 1) (area_of 0 0 9 1) (codes "1/12")
    ≡ set_layers (area_of 0 0 9 1) (record { x = 5; y = 0 }) (styled_text (codes "1/12") no_style) 4
unfolding right_layers
number_at_right = refl

pub number_cut : right_layers (area_of 0 0 2 1) (area_of 0 0 2 1) (codes "1/12")
    ≡ set_layers (area_of 0 0 2 1) (record { x = 0; y = 0 }) (styled_text (codes "1/12") no_style) 2
unfolding right_layers
number_cut = refl
