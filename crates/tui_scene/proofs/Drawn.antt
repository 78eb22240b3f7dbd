-- A drawing on a blank buffer gives exactly one screen.
use Rattle.std.proofs.Common.{◌≡◌, ℕ, ◌+◌, ◌-◌, ◌<◌, ◌≤◌, Bool, true, false, if◌then◌else◌, List, [], length, get_or, map, Some, None, option_map}
use Rattle.std.proofs.Common.{refl, sym, ap, subst, ◌∙◌, arith}
use Rattle.std.proofs.lemmas.Bool.Decides.{nat_tests}
use Rattle.std.proofs.lemmas.List.{get_or_default, same_lists}
use Rattle.std.proofs.lemmas.List.Elements.{All-get_or}
use Rattle.tui_cells.specs.declared.rect.Rect.{Rect}
use Rattle.tui_cells.specs.Buffer.{IsFilled, IsScreen, Screen, cell_at}
use Rattle.tui_cells.specs.Cell.{Look, blank}
use Rattle.tui_cells.specs.Layers.{layers_at}
use Rattle.tui_cells.specs.Rect.{area_of, covers}
use Rattle.tui_scene.specs.Drawn.{IsDrawn}
use Rattle.tui_scene.specs.Item.{PlacedData, placed_after}
use Rattle.tui_scene.specs.Laws.{DrawingIsUnique}
use Rattle.tui_scene.specs.Scene.{scene_layers}

inside : (r : Rect) (i k : ℕ) → i < r.width → k < r.height → r.x + r.width ≤ 65535 → r.y + r.height ≤ 65535 → covers r (r.x + i) (r.y + k) ≡ true
inside r i k column row right bottom = grind (arith, nat_tests)

-- the cell in column i of row k
cell_in : (r : Rect) (rows : List (List Look)) (i k : ℕ) → covers r (r.x + i) (r.y + k) ≡ true →
    cell_at (record { area = r; rows = rows }) (r.x + i) (r.y + k) ≡ Some (get_or (get_or rows k []) i blank)
cell_in r rows i k in_area =
    let column : r.x + i - r.x ≡ i = omega arith in
    let row : r.y + k - r.y ≡ k = omega arith in
    rw (in_area, column, row) refl

same_cell : (c d : Look) → Some c ≡ Some d → c ≡ d
same_cell c d e = cc

same_row : (r : Rect) (xs ys : List (List Look)) → IsScreen (record { area = r; rows = xs }) → IsScreen (record { area = r; rows = ys }) →
    ((x y : ℕ) → cell_at (record { area = r; rows = xs }) x y ≡ cell_at (record { area = r; rows = ys }) x y) →
    (k : ℕ) → k < length xs → get_or xs k [] ≡ get_or ys k []
same_row r xs ys p q same k lt =
    let long : length (get_or xs k []) ≡ r.width = All-get_or (λ (row : List Look). length row ≡ r.width) xs k [] lt p.wide in
    let as_long : length (get_or ys k []) ≡ r.width = All-get_or (λ (row : List Look). length row ≡ r.width) ys k [] (omega (arith, p.high, q.high)) q.wide in
    same_lists (get_or xs k []) (get_or ys k []) (long ∙ sym as_long) (λ i d before.
    let in_area = inside r i k (omega arith) (omega (arith, p.high)) p.right p.bottom in
    let here = same_cell _ _ (sym (cell_in r xs i k in_area) ∙ (same (r.x + i) (r.y + k) ∙ cell_in r ys i k in_area)) in
    get_or_default (get_or xs k []) i d blank before ∙ (here ∙ get_or_default (get_or ys k []) i blank d (omega arith)))

same_rows : (r : Rect) (xs ys : List (List Look)) → IsScreen (record { area = r; rows = xs }) → IsScreen (record { area = r; rows = ys }) →
    ((x y : ℕ) → cell_at (record { area = r; rows = xs }) x y ≡ cell_at (record { area = r; rows = ys }) x y) → xs ≡ ys
same_rows r xs ys p q same = same_lists xs ys (p.high ∙ sym q.high) (λ k d lt.
    get_or_default xs k d [] lt ∙ (same_row r xs ys p q same k lt ∙ get_or_default ys k [] d (omega (arith, p.high, q.high))))

-- rows that have the shape of a screen with this area, and its cells
record Alike (a : Screen) (rows : List (List Look)) (r : Rect) : Type 0 where
  shape : IsScreen (record { area = r; rows = rows })
  cells : (x y : ℕ) → cell_at (record { area = r; rows = rows }) x y ≡ cell_at a x y

-- two screens with the same area and the same cells are equal
pub one_screen : (a b : Screen) → b.area ≡ a.area → IsScreen a → IsScreen b → ((x y : ℕ) → cell_at b x y ≡ cell_at a x y) → b ≡ a
one_screen a b area p q same =
    let there = subst (Alike a b.rows) area (record { shape = q; cells = same }) in
    let rows = same_rows a.area b.rows a.rows there.shape p there.cells in
    λ i. record { area = area i; rows = rows i }

-- the cells of a blank buffer with this area
pub filled_cell : (r : Rect) (b : Screen) → IsFilled r blank b → (x y : ℕ) → cell_at b x y ≡ (if covers r x y then Some blank else None)
filled_cell r b f x y = by_test (covers r x y) refl
  where
    by_test : (t : Bool) → covers r x y ≡ t → cell_at b x y ≡ (if covers r x y then Some blank else None)
    by_test true e = f.cells x y e ∙ rw e refl
    by_test false e = rw (f.area_is, e) refl

-- a drawn screen cell by cell, and the states
drawn_cells : (width height : ℕ) (old new : List PlacedData) (last : Screen) → IsDrawn width height old new last →
    let area = area_of 0 0 width height in
    (last.area ≡ area) × (new ≡ map (placed_after area) old)
    × ((x y : ℕ) → cell_at last x y ≡ option_map (layers_at (scene_layers area old) x y) (if covers area x y then Some blank else None))
drawn_cells width height old new last d =
    let area = area_of 0 0 width height in
    let is : d.first.area ≡ area = d.blank_first.area_is in (
      d.strokes.area ∙ is,
      rw is at d.states,
      λ x y.
          d.strokes.cells x y ∙ (ap (λ (r : Rect). option_map (layers_at (scene_layers r old) x y) (cell_at d.first x y)) is
          ∙ ap (option_map (layers_at (scene_layers area old) x y)) (filled_cell area d.first d.blank_first x y)),
    )

pub one_drawing : DrawingIsUnique
one_drawing width height old new other last different d e =
    let one = drawn_cells width height old new last d in
    let two = drawn_cells width height old other different e in
    (one_screen last different (two.0 ∙ sym one.0) d.shape e.shape (λ x y. two.2 x y ∙ sym (one.2 x y)), two.1 ∙ sym one.1)
