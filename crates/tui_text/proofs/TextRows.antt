-- Lines, one in each row, one more at a time.
use Rattle.std.proofs.Common.{◌≡◌, true, List, [], ◌∷◌, Option, refl, arith}
use Rattle.std.proofs.lemmas.Bool.Decides.{nat_tests}
use Rattle.tui_cells.specs.declared.rect.Rect.{Rect}
use Rattle.tui_cells.specs.Buffer.{Screen}
use Rattle.tui_cells.specs.Layers.{Painted}
use Rattle.tui_cells.specs.Rect.{is_empty}
use Rattle.tui_cells.proofs.Painting.{Painted-none, Painted-then}
use Rattle.tui_text.specs.Line.{LineData}
use Rattle.tui_text.specs.Painting.{alignment_in, below, lines_layers, row_layers}
use Rattle.tui_text.specs.declared.alignment.Alignment.{Alignment}

below_empty : (area : Rect) → is_empty area ≡ true → is_empty (below area) ≡ true
below_empty area e = grind (arith, nat_tests)

row_none : (area : Rect) (a : Alignment) (l : LineData) → is_empty area ≡ true → row_layers area a l ≡ []
unfolding row_layers
row_none area a l e = rw e refl

-- an empty area shows no line
pub lines_none : (area : Rect) (given : Option Alignment) (ls : List LineData) → is_empty area ≡ true → lines_layers area given ls ≡ []
unfolding lines_layers
lines_none area given [] e = refl
lines_none area given (l ∷ ls) e = rw (row_none area (alignment_in given l) l e) (lines_none (below area) given ls (below_empty area e))

-- one more line is painted
pub lines_more : (area rest : Rect) (given : Option Alignment) (l : LineData) (ls lines : List LineData) (a b final : Screen) →
    lines ≡ l ∷ ls → rest ≡ below area →
    Painted (row_layers area (alignment_in given l) l) a b → Painted (lines_layers rest given ls) b final → Painted (lines_layers area given lines) a final
unfolding lines_layers
lines_more area rest given l ls lines a b final e r p q = rw e (Painted-then p (rw r at q))

pub lines_ended : (area : Rect) (given : Option Alignment) (ls : List LineData) (b : Screen) → is_empty area ≡ true → Painted (lines_layers area given ls) b b
lines_ended area given ls b e = rw (lines_none area given ls e) (Painted-none b)

pub lines_done : (area : Rect) (given : Option Alignment) (ls : List LineData) (b : Screen) → ls ≡ [] → Painted (lines_layers area given ls) b b
unfolding lines_layers
lines_done area given ls b e = rw e (Painted-none b)
