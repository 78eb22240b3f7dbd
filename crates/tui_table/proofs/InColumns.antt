-- Cells in columns, one more at a time.
use Rattle.std.proofs.Common.{◌≡◌, ℕ, ◌+◌, ◌-◌, ◌*◌, ◌<◌, ◌≤◌, min, List, [], ◌∷◌, map, drop, take, length, get_or, refl, ◌∙◌, ap, sym, subst, arith, add-one, drop-cons, Result, OnOk, sum_by}
use Rattle.std.proofs.lemmas.List.{drop_all, get_or-map, length-map}
use Rattle.std.proofs.lemmas.Grind.{common_steps}
use Rattle.tui_cells.specs.declared.rect.Rect.{Rect}
use Rattle.tui_cells.specs.Buffer.{Screen}
use Rattle.tui_cells.specs.Layers.{Painted}
use Rattle.tui_cells.specs.Rect.{columns_from}
use Rattle.tui_cells.proofs.Painting.{Painted-none, Painted-then}
use Rattle.tui_layout.specs.declared.segment.Segment.{Segment}
use Rattle.tui_table.specs.Cell.{CellData}
use Rattle.tui_table.specs.declared.row_kind.RowKind.{RowKind}
use Rattle.tui_table.specs.Strokes.{cell_layers, cells_layers, over_columns, span_in, text_over}

-- the columns that a cell takes by its span, and those after it
part_of : (columns : List Segment) (used span : ℕ) → used ≤ length columns →
    take (used + min span (length columns - used) - used) (drop used columns) ≡ take span (drop used columns)
part_of columns used span le = grind (arith, common_steps)

rest_of : (columns : List Segment) (used span : ℕ) → used ≤ length columns →
    drop (used + min span (length columns - used)) columns ≡ drop span (drop used columns)
rest_of columns used span le = grind (arith, common_steps)

pub cells_more : {A : Type 0} (f : A → CellData) (xs : List A) (area : Rect) (gutter spacing : ℕ) (kind : RowKind) (i used end : ℕ) (columns : List Segment) (x : A) (a b c : Screen) →
    i < length xs → x ≡ get_or xs i x → used ≤ length columns → end ≡ used + min (span_in kind (f x)) (length columns - used) →
    Painted (cell_layers area gutter spacing (take (end - used) (drop used columns)) (f x)) a b →
    Painted (cells_layers area gutter spacing kind (drop end columns) (drop (i + 1) (map f xs))) b c →
    Painted (cells_layers area gutter spacing kind (drop used columns) (drop i (map f xs))) a c
unfolding cells_layers
cells_more f xs area gutter spacing kind i used end columns x a b c lt here le e p q =
    let inside : i < length (map f xs) = rw (length-map xs f) lt in
    let item : get_or (map f xs) i (f x) ≡ f x = get_or-map f xs i x (f x) lt ∙ sym (ap f here) in
    let whole : drop i (map f xs) ≡ f x ∷ drop (i + 1) (map f xs) = rw (add-one, drop-cons (map f xs) i (f x) inside, item) refl in
    let first : take (end - used) (drop used columns) ≡ take (span_in kind (f x)) (drop used columns) =
    ap (λ n. take (n - used) (drop used columns)) e ∙ part_of columns used (span_in kind (f x)) le in
    let rest : drop end columns ≡ drop (span_in kind (f x)) (drop used columns) = ap (λ n. drop n columns) e ∙ rest_of columns used (span_in kind (f x)) le in
    rw whole (Painted-then
    (subst (λ (ks : List Segment). Painted (cell_layers area gutter spacing ks (f x)) a b) first p)
    (subst (λ (ks : List Segment). Painted (cells_layers area gutter spacing kind ks (drop (i + 1) (map f xs))) b c) rest q))

pub cells_done : (area : Rect) (gutter spacing : ℕ) (kind : RowKind) (i : ℕ) (columns : List Segment) (cells : List CellData) (a : Screen) → length cells ≤ i →
    Painted (cells_layers area gutter spacing kind columns (drop i cells)) a a
unfolding cells_layers
cells_done area gutter spacing kind i columns cells a le = rw (drop_all i cells le) (Painted-none a)

pub cell_none : (area : Rect) (gutter spacing : ℕ) (columns : List Segment) (d : CellData) (a : Screen) → length columns ≡ 0 →
    Painted (cell_layers area gutter spacing columns d) a a
unfolding cell_layers
cell_none area gutter spacing [] d a e = Painted-none a
cell_none area gutter spacing (k ∷ ks) d a e = absurd (omega arith)

-- a width that is limited to 65535 makes no difference in an area that is not wider
same_part : (area : Rect) (from count cut : ℕ) → area.width ≤ 65535 → cut ≡ min count 65535 → columns_from area from cut ≡ columns_from area from count
same_part area from count cut small e = ap (λ w. record area { x = min (area.x + from) 65535; width = w }) (omega (arith, e))

pub cell_some : {T E : Type 0} (result : Result T E) (area part : Rect) (gutter spacing width : ℕ) (columns : List Segment) (k : Segment) (d : CellData) (a b : Screen) →
    area.width ≤ 65535 → 0 < length columns → width ≡ min (sum_by (λ (c : Segment). c.width) columns + spacing * (length columns - 1)) 65535 →
    part ≡ columns_from area (gutter + (get_or columns 0 k).start) width →
    OnOk result (Painted (text_over part d.style d.content) a b) → OnOk result (Painted (cell_layers area gutter spacing columns d) a b)
unfolding cell_layers
cell_some result area part gutter spacing width [] k d a b small lt ws ps p = absurd (omega arith)
cell_some result area part gutter spacing width (j ∷ js) k d a b small lt ws ps p =
    let one : length (j ∷ js) - 1 ≡ length js = omega arith in
    let wide : width ≡ min (sum_by (λ (c : Segment). c.width) (j ∷ js) + spacing * length js) 65535 =
    ws ∙ ap (λ n. min (sum_by (λ (c : Segment). c.width) (j ∷ js) + spacing * n) 65535) one in
    let e : part ≡ over_columns area gutter spacing j js = ps ∙ same_part area (gutter + j.start) _ width small wide in
    subst (λ (r : Rect). OnOk result (Painted (text_over r d.style d.content) a b)) e p
