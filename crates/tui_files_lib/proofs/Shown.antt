-- What is drawn in parts of a screen.
use Rattle.std.proofs.Common.{◌≡◌, ℕ, ◌+◌, ◌≤◌, true, false, List, Option, None, Some, option_map, sym, ap, ap₂, ◌∙◌, subst, arith}
use Rattle.std.proofs.lemmas.Bool.Decides.{nat_tests}
use Rattle.tui_cells.specs.Buffer.{IsFilled, IsScreen, Screen, cell_at}
use Rattle.tui_cells.specs.Cell.{blank}
use Rattle.tui_cells.specs.Layers.{KeptOutside, Layer, Painted, layers_at}
use Rattle.tui_cells.specs.Rect.{covers, intersection_of}
use Rattle.tui_cells.specs.declared.rect.Rect.{Rect}
use Rattle.tui_cells.proofs.Painting.{KeptOutside-weaker, Painted-kept}
use Rattle.tui_cells.proofs.Regions.{outside_both}
use Rattle.tui_files_lib.specs.Drawing.{ShowsNames, head_area, names_area, status_area}
use Rattle.tui_frames.specs.Block.{BlockData}
use Rattle.tui_frames.specs.Footprint.{footprint_if, footprint_of}
use Rattle.tui_frames.specs.InBlock.{inner_of}
use Rattle.tui_frames.specs.Shadow.{ShadowData}
use Rattle.tui_lists.proofs.ListShown.{redraw_keeps_strokes}
use Rattle.tui_lists.specs.List.{ListData, ListMoves, list_after}
use Rattle.tui_lists.specs.ListStrokes.{list_layers}
use Rattle.tui_lists.specs.declared.list.state.ListState.{ListState}
use Rattle.tui_para.specs.Paragraph.{ParagraphData}
use Rattle.tui_para.specs.Rendering.{paragraph_layers}
use Rattle.tui_para.specs.Stays.{paragraph_stays}

-- a paragraph without a block, or whose block has no shadow, changes nothing outside its area
within : (area : Rect) (a b : Screen) → KeptOutside (covers (intersection_of area a.area)) a b → KeptOutside (covers area) a b
within area a b kept = KeptOutside-weaker (λ x y out. outside_both area a.area x y out) kept

pub block_kept : (p : ParagraphData) (block : BlockData) (area : Rect) (a b : Screen) → p.block ≡ Some block → block.shadow ≡ None →
    Painted (paragraph_layers p (intersection_of area a.area)) a b → KeptOutside (covers area) a b
block_kept p block area a b is none painted =
    let clip = intersection_of area a.area in
    let kept = Painted-kept (paragraph_stays p clip) painted in
    let blocked = subst (λ (o : Option BlockData). KeptOutside (footprint_if o clip) a b) is kept in
    within area a b (subst (λ (o : Option ShadowData). KeptOutside (footprint_of o clip) a b) none blocked)

pub plain_kept : (p : ParagraphData) (area : Rect) (a b : Screen) → p.block ≡ None →
    Painted (paragraph_layers p (intersection_of area a.area)) a b → KeptOutside (covers area) a b
plain_kept p area a b is painted =
    let clip = intersection_of area a.area in
    within area a b (subst (λ (o : Option BlockData). KeptOutside (footprint_if o clip) a b) is (Painted-kept (paragraph_stays p clip) painted))

-- a list, drawn with the state that the drawing leaves
pub list_drawn : (l m : ListData) (was is : ListState) (clip : Rect) (a b : Screen) → l ≡ m → is ≡ list_after l (inner_of l.block clip) was →
    Painted (list_layers l was clip) a b → Painted (list_layers m is clip) a b
list_drawn l m was is clip a b same left painted =
    let stays : list_layers l is clip ≡ list_layers l was clip = ap (λ (s : ListState). list_layers l s clip) left ∙ redraw_keeps_strokes l was clip in
    subst (λ (k : ListData). Painted (list_layers k is clip) a b) same (subst (λ (ls : List Layer). Painted ls a b) (sym stays) painted)

-- ---- the three areas

rect_at : ℕ → ℕ → ℕ → ℕ → Rect
rect_at x y w h = record { x = x; y = y; width = w; height = h }

-- the names' area is within the screen's
clip_is : (area : Rect) → area.x + area.width ≤ 65535 → area.y + area.height ≤ 65535 → intersection_of (names_area area) area ≡ names_area area
unfolding rect_at
clip_is area wide high =
    let n = names_area area in
    let c = intersection_of n area in
    let x : c.x ≡ n.x = omega arith in
    let y : c.y ≡ n.y = omega arith in
    let w : c.width ≡ n.width = omega arith in
    let h : c.height ≡ n.height = omega arith in
    ap₂ (λ (p q : ℕ). rect_at p q c.width c.height) x y ∙ ap₂ (rect_at n.x n.y) w h

names_in : (area : Rect) (x y : ℕ) → covers (names_area area) x y ≡ true → covers area x y ≡ true
names_in area x y here = grind (arith, nat_tests)

head_out : (area : Rect) (x y : ℕ) → covers (names_area area) x y ≡ true → covers (head_area area) x y ≡ false
head_out area x y here = grind (arith, nat_tests)

status_out : (area : Rect) (x y : ℕ) → covers (names_area area) x y ≡ true → covers (status_area area) x y ≡ false
status_out area x y here = grind (arith, nat_tests)

-- a list drawn on blank cells stays visible when the head and the status are drawn beside and below it
pub shows_names : (l m : ListData) (before was is : ListState) (area names head status : Rect) (a b c d : Screen) → l ≡ m → before ≡ was →
    area ≡ a.area → names ≡ names_area area →
    head ≡ head_area area → status ≡ status_area area → IsScreen a → IsFilled a.area blank a →
    Painted (list_layers l is (intersection_of names a.area)) a b → ListMoves l (inner_of l.block (intersection_of names a.area)) before is →
    KeptOutside (covers head) b c → KeptOutside (covers status) c d → ShowsNames m was is d
shows_names l m before was is area names head status a b c d same_list same_state area_is names_is head_is status_is shape filled painted moves head_kept status_kept =
    let clip : intersection_of names a.area ≡ names_area a.area =
    ap (λ (r : Rect). intersection_of r a.area) (names_is ∙ ap names_area area_is) ∙ clip_is a.area shape.right shape.bottom in
    let drawn = subst (λ (r : Rect). Painted (list_layers l is r) a b) clip painted in
    let moved = subst (λ (r : Rect). ListMoves l (inner_of l.block r) before is) clip moves in
    let beside = subst (λ (r : Rect). KeptOutside (covers r) b c) (head_is ∙ ap head_area area_is) head_kept in
    let below = subst (λ (r : Rect). KeptOutside (covers r) c d) (status_is ∙ ap status_area area_is) status_kept in
    let same : d.area ≡ a.area = below.area ∙ (beside.area ∙ drawn.area) in
    let cells : (x y : ℕ) → covers (names_area a.area) x y ≡ true → cell_at d x y ≡ Some (layers_at (list_layers l is (names_area a.area)) x y blank) =
    λ x y here. below.cells x y (status_out a.area x y here) ∙ (beside.cells x y (head_out a.area x y here)
    ∙ (drawn.cells x y ∙ ap (option_map (layers_at (list_layers l is (names_area a.area)) x y)) (filled.cells x y (names_in a.area x y here)))) in
    let shown : ShowsNames l before is d = record {
      moves = subst (λ (r : Rect). ListMoves l (inner_of l.block (names_area r)) before is) (sym same) moved;
      cells = subst (λ (r : Rect). (x y : ℕ) → covers (names_area r) x y ≡ true → cell_at d x y ≡ Some (layers_at (list_layers l is (names_area r)) x y blank))
          (sym same) cells;
    } in
    subst (λ (w : ListState). ShowsNames m w is d) same_state (subst (λ (k : ListData). ShowsNames k before is d) same_list shown)
