-- The rows of a page that is drawn on blank cells.
use Rattle.std.proofs.Common.{◌≡◌, ℕ, ◌-◌, ◌<◌, ◌≤◌, min, true, false, List, [], length, get_or, map, Option, None, Some, option_map, Bool, refl, sym, ap, subst, ◌∙◌, ⊎_elim, arith}
use Rattle.std.specs.Prelude.{◌⊎◌, if◌then◌else◌}
use Rattle.std.proofs.lemmas.Bool.{cases_Bool}
use Rattle.std.proofs.lemmas.Bool.Decides.{nat_tests}
use Rattle.std.proofs.lemmas.List.FromFn.{fill_by_all}
use Rattle.std.proofs.lemmas.List.Elements.{All-get_or}
use Rattle.std.specs.List.{range_with_len}
use Rattle.tui_cells.specs.Buffer.{IsFilled, IsScreen, Screen, cell_at, look_at}
use Rattle.tui_cells.specs.Cell.{Look, blank, edited, wipe}
use Rattle.tui_cells.specs.Layers.{KeptOutside, Layer, Painted, layers_at, stroke}
use Rattle.tui_cells.specs.Rect.{area_of, covers, rows_from}
use Rattle.tui_cells.specs.declared.rect.Rect.{Rect}
use Rattle.tui_pages_lib.specs.Report.{ReportData}
use Rattle.tui_cells.proofs.Painting.{layers_at-append}
use Rattle.tui_pages_lib.specs.Strokes.{body_area, body_layers, head_area, head_layers, page_area, page_layers}
use Rattle.tui_pages_run.specs.Printed.{ShowsHead, page_rows, rows_under}
use Rattle.tui_pages_run.proofs.Pages.{area_again}

-- an area at the origin, within the limits of a screen
record IsSheet (area : Rect) : Type 0 where
  left : area.x ≡ 0
  top : area.y ≡ 0
  right : area.width ≤ 65535
  bottom : area.height ≤ 65535

covered : (area : Rect) (x y : ℕ) → IsSheet area → x < area.width → y < area.height → covers area x y ≡ true
covered area x y sheet column row =
    let left = sheet.left in
    let top = sheet.top in
    let right = sheet.right in
    let bottom = sheet.bottom in
    grind (arith, nat_tests)

row_cell : (c : Screen) (x y : ℕ) → c.area.x ≡ 0 → c.area.y ≡ 0 → covers c.area x y ≡ true →
    cell_at c x y ≡ Some (get_or (get_or c.rows y []) x blank)
row_cell c x y left top inside =
    let column : x - c.area.x ≡ x = omega arith in
    let row : y - c.area.y ≡ y = omega arith in
    rw (inside, column, row) refl

same_some : (c d : Look) → Some c ≡ Some d → c ≡ d
same_some c d e = cc

-- the rows of a screen in which each cell is a blank one after some strokes
drawn_rows : (area : Rect) (layers : List Layer) (c : Screen) → IsSheet area → c.area ≡ area → IsScreen c →
    ((x y : ℕ) → covers area x y ≡ true → cell_at c x y ≡ Some (layers_at layers x y blank)) → c.rows ≡ rows_under layers area
drawn_rows area layers c sheet there shape cells =
    let high : length c.rows ≡ area.height = shape.high ∙ ap (λ (r : Rect). r.height) there in
    fill_by_all (λ y. map (λ x. layers_at layers x y blank) (range_with_len 0 area.width)) c.rows area.height [] high (λ y row. row_is y row high)
  where
    row_is : (y : ℕ) → y < area.height → length c.rows ≡ area.height →
        get_or c.rows y [] ≡ map (λ x. layers_at layers x y blank) (range_with_len 0 area.width)
    row_is y row high =
        let wide : length (get_or c.rows y []) ≡ c.area.width = All-get_or (λ (row : List Look). length row ≡ c.area.width) c.rows y [] (omega arith) shape.wide in
        fill_by_all (λ x. layers_at layers x y blank) (get_or c.rows y []) area.width blank (wide ∙ ap (λ (r : Rect). r.width) there) (λ x column.
        let inside = covered area x y sheet column row in
        let also : covers c.area x y ≡ true = rw there inside in
        let left : c.area.x ≡ 0 = rw there sheet.left in
        let top : c.area.y ≡ 0 = rw there sheet.top in
        same_some _ _ (sym (row_cell c x y left top also) ∙ cells x y inside))

-- the part of a page that is redrawn for each page, as the program computes it
pub body_is : (r : ReportData) (area body : Rect) → area ≡ page_area r → body ≡ rows_from area 2 area.height → body ≡ body_area r
body_is r area body is part =
    let high : min (min r.height 65535) (min r.height 65535 - 2) ≡ min (r.height - 2) (min r.height 65535 - 2) = omega arith in
    part ∙ (ap (λ (g : Rect). rows_from g 2 g.height) is ∙ ap (λ h. record { x = 0; y = 2; width = min r.width 65535; height = h }) high)

head_out : (r : ReportData) (x y : ℕ) → covers (body_area r) x y ≡ true → covers (head_area r) x y ≡ false
head_out r x y inside = grind (arith, nat_tests)

in_page : (r : ReportData) (x y : ℕ) → covers (body_area r) x y ≡ true → covers (page_area r) x y ≡ true
in_page r x y inside = grind (arith, nat_tests)

-- the title and the names on blank cells
pub head_shown : (r : ReportData) (area : Rect) (a b : Screen) → area ≡ page_area r →
    IsFilled (area_of area.x area.y area.width area.height) blank a → Painted (head_layers r a.area) a b →
    KeptOutside (covers (head_area r)) a b → ShowsHead r b
head_shown r area a b is filled painted kept =
    let there : a.area ≡ page_area r = filled.area_is ∙ area_again r area is in
    let blanks : (x y : ℕ) → covers (page_area r) x y ≡ true → cell_at a x y ≡ Some blank =
    λ x y inside. filled.cells x y (subst (λ (g : Rect). covers g x y ≡ true) (sym (area_again r area is)) inside) in
    let drawn : (x y : ℕ) → covers (page_area r) x y ≡ true → cell_at b x y ≡ Some (layers_at (head_layers r (page_area r)) x y blank) =
    λ x y inside.
    painted.cells x y ∙ ap (λ (g : Rect). option_map (layers_at (head_layers r g) x y) (cell_at a x y)) there
    ∙ ap (option_map (layers_at (head_layers r (page_area r)) x y)) (blanks x y inside) in
    record {
      area = painted.area ∙ there;
      above = λ x y inside out. drawn x y inside;
      below = λ x y inside.
          let whole = in_page r x y inside in
          same_some _ _ (sym (drawn x y whole) ∙ (kept.cells x y (head_out r x y inside) ∙ blanks x y whole));
    }

not_there : (there : Bool) (o : Option Look) → there ≡ false → option_map (λ c. if there then edited wipe c else c) o ≡ o
not_there there None out = refl
not_there there (Some c) out = rw out refl

in_turn : (r : ReportData) (at x y : ℕ) → layers_at (page_layers r at (page_area r)) x y blank
    ≡ layers_at (body_layers r at (page_area r)) x y (layers_at (head_layers r (page_area r)) x y blank)
unfolding page_layers
in_turn r at x y = layers_at-append (head_layers r (page_area r)) (body_layers r at (page_area r)) x y blank

module _ (r : ReportData) (at : ℕ) (body : Rect) (a b c : Screen) (is : body ≡ body_area r) (head : ShowsHead r a)
    (wiped : Painted (stroke (covers body) wipe) a b) where
  wiped_is : Painted (stroke (covers (body_area r)) wipe) a b
  wiped_is = subst (λ (g : Rect). Painted (stroke (covers g) wipe) a b) is wiped

  wiped_out : (x y : ℕ) → covers (body_area r) x y ≡ false → cell_at b x y ≡ cell_at a x y
  wiped_out x y out = wiped_is.cells x y ∙ not_there (covers (body_area r) x y) (cell_at a x y) out

  wiped_in : (x y : ℕ) → covers (body_area r) x y ≡ true → cell_at b x y ≡ Some blank
  wiped_in x y inside =
      let here : covers a.area x y ≡ true = rw head.area (in_page r x y inside) in
      let old : cell_at a x y ≡ Some (look_at a x y) = rw here refl in
      wiped_is.cells x y ∙ (ap (option_map (layers_at (stroke (covers (body_area r)) wipe) x y)) old ∙ rw inside refl)

  pub head_again : KeptOutside (covers (body_area r)) b c → ShowsHead r c
  head_again kept = record {
    area = kept.area ∙ (wiped_is.area ∙ head.area);
    above = λ x y inside out. kept.cells x y out ∙ (wiped_out x y out ∙ head.above x y inside out);
    below = head.below;
  }

  -- a page that is drawn over another
  pub page_drawn : Painted (body_layers r at b.area) b c → IsScreen c → c.rows ≡ page_rows r at
  unfolding page_rows
  page_drawn painted shape =
      let there : b.area ≡ page_area r = wiped_is.area ∙ head.area in
      let first = head_layers r (page_area r) in
      let second = body_layers r at (page_area r) in
      let drawn : Painted second b c = subst (λ (g : Rect). Painted (body_layers r at g) b c) there painted in
      drawn_rows (page_area r) (page_layers r at (page_area r)) c (record { left = refl; top = refl; right = omega arith; bottom = omega arith })
      (painted.area ∙ there) shape (λ x y inside. drawn.cells x y ∙ ap (option_map (layers_at second x y)) (before x y inside (cases_Bool (covers (body_area r) x y)))
      ∙ ap Some (sym (in_turn r at x y)))
    where
      before : (x y : ℕ) → covers (page_area r) x y ≡ true → (covers (body_area r) x y ≡ true) ⊎ (covers (body_area r) x y ≡ false) →
          cell_at b x y ≡ Some (layers_at (head_layers r (page_area r)) x y blank)
      before x y inside at = ⊎_elim
          (λ in_body. wiped_in x y in_body ∙ ap Some (sym (head.below x y in_body)))
          (λ out. wiped_out x y out ∙ head.above x y inside out)
          at
