-- Laws of drawing an input: a second drawing doesn't change the state again.
use Rattle.std.specs.Prelude.{◌≡◌, ℕ, Bool, true, false, min, max, List, Option, if◌then◌else◌}
use Rattle.std.proofs.Common.{arith, refl, ap}
use Rattle.tui_cells.specs.declared.rect.Rect.{Rect}
use Rattle.tui_cells.specs.Rect.{is_empty}
use Rattle.tui_cells.proofs.Painting.{covers_nowhere}
use Rattle.tui_input.specs.Input.{InputData, has_cell, input_after, room_of}
use Rattle.tui_input.specs.Scroll.{highest, lowest, scrolled, with_first}
use Rattle.tui_input.specs.State.{TypedText}

twice : (old low high : ℕ) → min (max (min (max old low) high) low) high ≡ min (max old low) high
twice old low high = omega arith

scrolled_twice : (mask : Option (List ℕ)) (width : ℕ) (s : TypedText) → scrolled mask width (scrolled mask width s) ≡ scrolled mask width s
scrolled_twice mask width s = ap (with_first s) (twice s.first (lowest mask width s) (highest mask width s))

settled : (mask : Option (List ℕ)) (width : ℕ) (s : TypedText) (some : Bool) →
    (if some then scrolled mask width (if some then scrolled mask width s else s) else (if some then scrolled mask width s else s))
    ≡ (if some then scrolled mask width s else s)
settled mask width s true = scrolled_twice mask width s
settled mask width s false = refl

-- a second drawing doesn't change the state again
pub input_settles : (i : InputData) (s : TypedText) (inner : Rect) → input_after i inner (input_after i inner s) ≡ input_after i inner s
input_settles i s inner = settled i.mask (room_of inner) s (has_cell inner)

rested : (s t : TypedText) (some : Bool) → some ≡ false → (if some then t else s) ≡ s
rested s t true e = cc
rested s t false e = refl

-- if there is no cell, the state doesn't change
pub input_rests : (i : InputData) (s : TypedText) (inner : Rect) → has_cell inner ≡ false → input_after i inner s ≡ s
input_rests i s inner e = rested s (scrolled i.mask (room_of inner) s) (has_cell inner) e

-- nor if the area is empty
pub empty_rests : (i : InputData) (s : TypedText) (inner : Rect) → is_empty inner ≡ true → input_after i inner s ≡ s
empty_rests i s inner e = input_rests i s inner (covers_nowhere inner e inner.x inner.y)
