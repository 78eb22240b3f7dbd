-- A message takes the place of an earlier one.
use Rattle.std.proofs.Common.{◌≡◌, ℕ, ◌+◌, Bool, true, false, ◌&&◌, ◌==◌, List, [], ◌∷◌, None, Some, refl, sym, ap, ◌∙◌, arith}
use Rattle.std.proofs.lemmas.Bool.{true≢false}
use Rattle.std.proofs.lemmas.Bool.Decides.{nat_tests}
use Rattle.std.specs.Prelude.{option_map, if◌then◌else◌}
use Rattle.tui_cells.specs.Buffer.{Screen, cell_at, look_at}
use Rattle.tui_cells.specs.Cell.{Look, blank, set_style, edited, write}
use Rattle.tui_cells.specs.Layers.{ascii_layers, layers_at}
use Rattle.tui_cells.specs.Rect.{covers}
use Rattle.tui_cells.specs.Style.{no_style}
use Rattle.tui_cells.specs.declared.rect.Rect.{Rect}
use Rattle.tui_cells.specs.declared.style.Style.{Style}
use Rattle.tui_view_run.specs.Frames.{MessagesReplace, last_row, message_layers}

one_of : (style : Style) (b : ℕ) (r : Bool) (c : Look) → r ≡ false →
    (if r then edited (set_style style) (if r then edited (write (b ∷ [])) c else c) else if r then edited (write (b ∷ [])) c else c) ≡ c
one_of style b true c e = absurd (true≢false e)
one_of style b false c e = refl

and_no : (p q : Bool) → q ≡ false → (p && q) ≡ false
and_no true q e = e
and_no false q e = refl

-- characters in another row
ascii_other : (px py x y : ℕ) (style : Style) (bs : List ℕ) (c : Look) → (y == py) ≡ false → layers_at (ascii_layers px py style bs) x y c ≡ c
unfolding ascii_layers
ascii_other px py x y style [] c e = refl
ascii_other px py x y style (b ∷ bs) c e =
    ap (layers_at (ascii_layers (px + 1) py style bs) x y) (one_of style b ((x == px) && (y == py)) c (and_no (x == px) (y == py) e))
    ∙ ascii_other (px + 1) py x y style bs c e

-- a position of the area that isn't in its last row
not_last : (r : Rect) (x y : ℕ) → covers r x y ≡ true → covers (last_row r) x y ≡ false → (y == (last_row r).y) ≡ false
not_last r x y inside outside = grind (arith, nat_tests)

-- the look of a cell under a message
message_in : (area : Rect) (text : List ℕ) (x y : ℕ) (in_row : Bool) (c : Look) → covers (last_row area) x y ≡ in_row →
    layers_at (message_layers area text) x y c
    ≡ layers_at (ascii_layers (last_row area).x (last_row area).y no_style text) x y (if in_row then blank else c)
message_in area text x y in_row c e =
    ap (λ (b : Bool). layers_at (ascii_layers (last_row area).x (last_row area).y no_style text) x y (if b then blank else c)) e

message_twice : (area : Rect) (first next : List ℕ) (x y : ℕ) (in_row : Bool) (c : Look) → covers area x y ≡ true → covers (last_row area) x y ≡ in_row →
    layers_at (message_layers area next) x y (layers_at (message_layers area first) x y c) ≡ layers_at (message_layers area next) x y c
message_twice area first next x y true c inside e =
    message_in area next x y true (layers_at (message_layers area first) x y c) e ∙ sym (message_in area next x y true c e)
message_twice area first next x y false c inside e =
    let row = last_row area in
    let kept : layers_at (message_layers area first) x y c ≡ c =
    message_in area first x y false c e ∙ ascii_other row.x row.y x y no_style first c (not_last area x y inside e) in
    ap (layers_at (message_layers area next) x y) kept

message_at : (a : Screen) (first next : List ℕ) (x y : ℕ) (inside : Bool) → covers a.area x y ≡ inside →
    option_map (layers_at (message_layers a.area next) x y) (option_map (layers_at (message_layers a.area first) x y) (if inside then Some (look_at a x y) else None))
    ≡ option_map (layers_at (message_layers a.area next) x y) (if inside then Some (look_at a x y) else None)
message_at a first next x y true e = ap (λ (c : Look). Some c) (message_twice a.area first next x y (covers (last_row a.area) x y) (look_at a x y) e refl)
message_at a first next x y false e = refl

pub messages_replace : MessagesReplace
messages_replace a b c first next p q = record {
  area = q.area ∙ p.area;
  cells = λ x y.
      q.cells x y
      ∙ (ap (λ (r : Rect). option_map (layers_at (message_layers r next) x y) (cell_at b x y)) p.area
      ∙ (ap (option_map (layers_at (message_layers a.area next) x y)) (p.cells x y) ∙ message_at a first next x y (covers a.area x y) refl));
}
