-- A list of the fields, and the focused text over it.
use Rattle.std.proofs.Common.{◌≡◌, ℕ, ◌+◌, ◌<◌, ◌≤◌, true, List, Option, Some, option_map, sym, ap, ap₂, subst, ◌∙◌, arith}
use Rattle.std.proofs.lemmas.Bool.Decides.{nat_tests}
use Rattle.tui_cells.proofs.Painting.{Painted-append}
use Rattle.tui_cells.specs.Buffer.{IsFilled, IsScreen, Screen, cell_at}
use Rattle.tui_cells.specs.Cell.{blank}
use Rattle.tui_cells.specs.Layers.{Painted, layers_at}
use Rattle.tui_cells.specs.Rect.{covers, farthest_edge, intersection_of}
use Rattle.tui_cells.specs.declared.position.Position.{Position}
use Rattle.tui_cells.specs.declared.rect.Rect.{Rect}
use Rattle.tui_form_lib.specs.Drawing.{ShowsForm, cursor_over, field_drawn, form_drawn, form_layers, form_list, has_room, inside, layers_over, list_state, offset_in, row_in, titled_block, value_row}
use Rattle.tui_form_lib.specs.Form.{FormData}
use Rattle.tui_form_lib.specs.Steps.{changed_at}
use Rattle.tui_frames.specs.Space.{inner}
use Rattle.tui_lists.specs.List.{list_after}
use Rattle.tui_lists.specs.ListStrokes.{list_layers}
use Rattle.tui_lists.specs.declared.list.state.ListState.{ListState}

-- ---- areas

rect_at : ℕ → ℕ → ℕ → ℕ → Rect
rect_at x y w h = record { x = x; y = y; width = w; height = h }

-- an area within another one is their intersection
pub clip_same : (r area : Rect) → area.x ≤ r.x → r.x + r.width ≤ area.x + area.width → area.y ≤ r.y → r.y + r.height ≤ area.y + area.height →
    area.x + area.width ≤ 65535 → area.y + area.height ≤ 65535 → intersection_of r area ≡ r
unfolding rect_at
clip_same r area left right top bottom wide high =
    let c = intersection_of r area in
    let x : c.x ≡ r.x = omega arith in
    let y : c.y ≡ r.y = omega arith in
    let w : c.width ≡ r.width = omega arith in
    let h : c.height ≡ r.height = omega arith in
    ap₂ (λ (p q : ℕ). rect_at p q c.width c.height) x y ∙ ap₂ (rect_at r.x r.y) w h

pub whole_is : (area : Rect) → area.x + area.width ≤ 65535 → area.y + area.height ≤ 65535 → intersection_of area area ≡ area
whole_is area wide high = clip_same area area (omega arith) (omega arith) (omega arith) (omega arith) wide high

pub wide_of : (area : Rect) → has_room area ≡ true → 11 < area.width
wide_of area room = grind (arith, nat_tests)

pub high_of : (area : Rect) → has_room area ≡ true → 3 < area.height
high_of area room = grind (arith, nat_tests)

-- the area inside the borders
pub record IsInside (r area : Rect) : Type 0 where
  pub x : r.x ≡ area.x + 1
  pub y : r.y ≡ area.y + 1
  pub width : r.width + 2 ≡ area.width
  pub height : r.height + 2 ≡ area.height

pub is_inside : (title : List ℕ) (area : Rect) → 11 < area.width → 3 < area.height → area.x + area.width ≤ 65535 → area.y + area.height ≤ 65535 →
    IsInside (inner (titled_block title) area) area
is_inside title area w h wide high = record { x = omega arith; y = omega arith; width = omega arith; height = omega arith }

-- the row of the focused value is within it
pub row_clip : (r area : Rect) (offset focus : ℕ) → IsInside r area → 11 < area.width → 3 < area.height → area.x + area.width ≤ 65535 →
    area.y + area.height ≤ 65535 → intersection_of (value_row r offset focus) area ≡ value_row r offset focus
row_clip r area offset focus is w h wide high =
    let row = value_row r offset focus in
    let rx = is.x in
    let ry = is.y in
    let rw_ = is.width in
    let rh = is.height in
    let x : row.x ≡ r.x + 4 = omega arith in
    let width : row.width + 4 ≡ r.width = omega arith in
    let top : r.y ≤ row.y = omega arith in
    let bottom : row.y + row.height ≤ r.y + r.height = omega arith in
    clip_same row area (omega arith) (omega arith) (omega arith) (omega arith) wide high

-- ---- both

pub shows_form : (f mid new : FormData) (s t : ListState) (in_ row : Rect) (place : Option Position) (a b c : Screen) →
    has_room a.area ≡ true → IsScreen a → IsFilled a.area blank a → s ≡ list_state f →
    Painted (list_layers (form_list f) s (intersection_of a.area a.area)) a b →
    t ≡ list_after (form_list f) (inside f (intersection_of a.area a.area)) s →
    in_ ≡ inside f a.area → mid ≡ record f { offset = t.offset } → row ≡ value_row in_ mid.offset mid.focus →
    Painted (layers_over (intersection_of row b.area) mid.fields mid.focus) b c →
    new ≡ record mid { fields = changed_at (field_drawn (intersection_of row b.area)) mid.focus mid.fields } →
    place ≡ cursor_over row (changed_at (field_drawn (intersection_of row b.area)) mid.focus mid.fields) mid.focus → ShowsForm f c place new
shows_form f mid new s t in_ row place a b c room shape filled s_is listed t_is in_is mid_is row_is typed new_is place_is =
    let area = a.area in
    let wide = shape.right in
    let high = shape.bottom in
    let w = wide_of area room in
    let h = high_of area room in
    let whole : intersection_of area area ≡ area = whole_is area wide high in
    let offset : t.offset ≡ offset_in f area =
    ap (λ (x : ListState). x.offset) (t_is ∙ ap₂ (λ (r : Rect) (x : ListState). list_after (form_list f) (inside f r) x) whole s_is) in
    let mid_drawn : mid ≡ record f { offset = offset_in f area } = mid_is ∙ ap (λ (o : ℕ). record f { offset = o }) offset in
    let row_drawn : row ≡ row_in f area = row_is ∙ ap₂ (λ (r : Rect) (m : FormData). value_row r m.offset m.focus) in_is mid_drawn in
    let clip : intersection_of row b.area ≡ row_in f area =
    ap₂ intersection_of row_drawn listed.area ∙ row_clip (inside f area) area (offset_in f area) f.focus (is_inside f.title area w h wide high) w h wide high in
    let list : Painted (list_layers (form_list f) (list_state f) area) a b =
    subst (λ (x : ListState). Painted (list_layers (form_list f) x area) a b) s_is (subst (λ (r : Rect). Painted (list_layers (form_list f) s r) a b) whole listed) in
    let over_mid : Painted (layers_over (row_in f area) mid.fields mid.focus) b c =
    subst (λ (r : Rect). Painted (layers_over r mid.fields mid.focus) b c) clip typed in
    let over : Painted (layers_over (row_in f area) f.fields f.focus) b c =
    subst (λ (m : FormData). Painted (layers_over (row_in f area) m.fields m.focus) b c) mid_is over_mid in
    let both : Painted (form_layers f area) a c =
    Painted-append (list_layers (form_list f) (list_state f) area) (layers_over (row_in f area) f.fields f.focus) a b c list over in
    let same : c.area ≡ area = both.area in
    let cells : (x y : ℕ) → covers area x y ≡ true → cell_at c x y ≡ Some (layers_at (form_layers f area) x y blank) =
    λ x y here. both.cells x y ∙ ap (option_map (layers_at (form_layers f area) x y)) (filled.cells x y here) in
    let drawn : new ≡ form_drawn f area =
    new_is ∙ ap₂ (λ (m : FormData) (r : Rect). record m { fields = changed_at (field_drawn r) m.focus m.fields }) mid_drawn clip in
    record {
      right = subst (λ (r : Rect). r.x + r.width ≤ farthest_edge) (sym same) wide;
      bottom = subst (λ (r : Rect). r.y + r.height ≤ farthest_edge) (sym same) high;
      cells = subst (λ (r : Rect). (x y : ℕ) → covers r x y ≡ true → cell_at c x y ≡ Some (layers_at (form_layers f r) x y blank)) (sym same) cells;
      new_is = drawn ∙ ap (form_drawn f) (sym same);
      cursor = place_is ∙ (ap (λ (m : FormData). cursor_over row m.fields m.focus) (sym new_is)
          ∙ ap (λ (r : Rect). cursor_over r new.fields new.focus) (row_drawn ∙ ap (row_in f) (sym same)));
    }
