-- Layers on a blank screen give exactly one screen.
use Rattle.std.proofs.Common.{◌≡◌, ℕ, ◌+◌, ◌-◌, ◌<◌, ◌≤◌, true, List, [], length, get_or, Some, sym, subst, ◌∙◌, refl, arith}
use Rattle.std.proofs.lemmas.Bool.Decides.{nat_tests}
use Rattle.std.proofs.lemmas.List.{get_or_default, same_lists}
use Rattle.std.proofs.lemmas.List.Elements.{All-get_or}
use Rattle.tui_cells.specs.Buffer.{Screen, cell_at}
use Rattle.tui_cells.specs.Cell.{Look, blank}
use Rattle.tui_cells.specs.Layers.{Layer}
use Rattle.tui_cells.specs.Rect.{covers}
use Rattle.tui_cells.specs.declared.rect.Rect.{Rect}
use Rattle.tui_pager_lib.specs.Laws.{ScreenIsUnique}
use Rattle.tui_pager_lib.specs.Screen.{IsDrawnOnBlank, page_area, pager_layers}

abbrev over : Rect → List (List Look) → Screen
over area rows = record { area = area; rows = rows }

inside : (r : Rect) (i k : ℕ) → i < r.width → k < r.height → r.x + r.width ≤ 65535 → r.y + r.height ≤ 65535 → covers r (r.x + i) (r.y + k) ≡ true
inside r i k column row right bottom = grind (arith, nat_tests)

-- the cell in column i of row k
cell_in : (r : Rect) (rows : List (List Look)) (i k : ℕ) → covers r (r.x + i) (r.y + k) ≡ true →
    cell_at (over r rows) (r.x + i) (r.y + k) ≡ Some (get_or (get_or rows k []) i blank)
cell_in r rows i k in_area =
    let column : r.x + i - r.x ≡ i = omega arith in
    let row : r.y + k - r.y ≡ k = omega arith in
    rw (in_area, column, row) refl

same_cell : (c d : Look) → Some c ≡ Some d → c ≡ d
same_cell c d e = cc

same_row : (layers : List Layer) (r : Rect) (xs ys : List (List Look)) → IsDrawnOnBlank layers r (over r xs) → IsDrawnOnBlank layers r (over r ys) →
    (k : ℕ) → k < length xs → get_or xs k [] ≡ get_or ys k []
same_row layers r xs ys p q k lt =
    let long : length (get_or xs k []) ≡ r.width = All-get_or (λ (row : List Look). length row ≡ r.width) xs k [] lt p.shape.wide in
    let as_long : length (get_or ys k []) ≡ r.width =
    All-get_or (λ (row : List Look). length row ≡ r.width) ys k [] (omega (arith, p.shape.high, q.shape.high)) q.shape.wide in
    same_lists (get_or xs k []) (get_or ys k []) (long ∙ sym as_long) (λ i d before.
    let in_area = inside r i k (omega arith) (omega (arith, p.shape.high)) p.shape.right p.shape.bottom in
    let alike = p.cells (r.x + i) (r.y + k) in_area ∙ sym (q.cells (r.x + i) (r.y + k) in_area) in
    let here = same_cell _ _ (sym (cell_in r xs i k in_area) ∙ (alike ∙ cell_in r ys i k in_area)) in
    get_or_default (get_or xs k []) i d blank before ∙ (here ∙ get_or_default (get_or ys k []) i blank d (omega arith)))

same_rows : (layers : List Layer) (r : Rect) (xs ys : List (List Look)) → IsDrawnOnBlank layers r (over r xs) → IsDrawnOnBlank layers r (over r ys) → xs ≡ ys
same_rows layers r xs ys p q = same_lists xs ys (p.shape.high ∙ sym q.shape.high) (λ k d lt.
    get_or_default xs k d [] lt ∙ (same_row layers r xs ys p q k lt ∙ get_or_default ys k [] d (omega (arith, p.shape.high, q.shape.high))))

drawn_over : (layers : List Layer) (r : Rect) (s : Screen) → IsDrawnOnBlank layers r s → IsDrawnOnBlank layers r (over r s.rows)
drawn_over layers r s drawn = subst (λ (g : Rect). IsDrawnOnBlank layers r (over g s.rows)) drawn.area_is drawn

pub one_screen : ScreenIsUnique
one_screen p screen other drawn again =
    let area = page_area p.width p.height in
    let rows = same_rows (pager_layers p) area other.rows screen.rows (drawn_over _ area other again) (drawn_over _ area screen drawn) in
    let there = again.area_is ∙ sym drawn.area_is in
    λ i. record { area = there i; rows = rows i }
