-- Regions of a buffer: rectangles within others, and strokes that stay in a region.
use Rattle.std.proofs.Common.{◌≡◌, ℕ, Bool, false, ◌&&◌, ◌||◌, not, List, arith}
use Rattle.std.proofs.lemmas.Bool.Decides.{nat_tests}
use Rattle.tui_cells.specs.declared.rect.Rect.{Rect}
use Rattle.tui_cells.specs.Layers.{Layer, StayIn}
use Rattle.tui_cells.specs.Rect.{columns_from, covers, intersection_of, rows_from}

-- an intersection covers what both cover
pub covers_both : (a b : Rect) (x y : ℕ) → covers (intersection_of a b) x y ≡ (covers a x y && covers b x y)
covers_both a b x y = grind (arith, nat_tests)

-- a position outside a clip is outside each part of it
pub outside_both : (clip part : Rect) (x y : ℕ) → covers clip x y ≡ false → covers (intersection_of clip part) x y ≡ false
outside_both clip part x y out = grind (arith, nat_tests)

-- a position outside a rectangle is outside its rows, and outside its columns
pub rows_out : (r : Rect) (from count : ℕ) (x y : ℕ) → covers r x y ≡ false → covers (rows_from r from count) x y ≡ false
rows_out r from count x y out = grind (arith, nat_tests)

pub columns_out : (r : Rect) (from count : ℕ) (x y : ℕ) → covers r x y ≡ false → covers (columns_from r from count) x y ≡ false
columns_out r from count x y out = grind (arith, nat_tests)

-- a position outside a base and an area is not in the part of the area outside the base
pub shade_out : (area base : Bool) → (base || area) ≡ false → (area && not base) ≡ false
shade_out area base e = grind arith

-- what is in neither of two regions is not in their union
pub either_out : (a b : Bool) → a ≡ false → b ≡ false → (a || b) ≡ false
either_out a b p q = rw p q

pub first_out : (area base : Bool) → (base || area) ≡ false → base ≡ false
first_out area base e = grind arith

-- strokes that stay in a region stay in a larger one
pub StayIn-wider : {R S : ℕ → ℕ → Bool} {ls : List Layer} → ((x y : ℕ) → S x y ≡ false → R x y ≡ false) → StayIn R ls → StayIn S ls
StayIn-wider e s = record { cell = λ x y out k. s.cell x y (e x y out) k }
