-- The passes over a bar chart.
use Rattle.std.proofs.Common.{
  ◌≡◌,
  ℕ,
  ◌+◌,
  ◌-◌,
  ◌<◌,
  ◌≤◌,
  ◌==◌,
  Bool,
  true,
  false,
  not,
  List,
  [],
  ◌∷◌,
  map,
  take,
  drop,
  length,
  nat_lt,
  get_or,
  if◌then◌else◌,
  refl,
  ◌∙◌,
  ap,
  subst,
  sym,
  arith,
  Result,
  OnOk,
  Option,
  Some,
  None,
  option_map,
  add-one,
  drop-cons,
}
use Rattle.std.specs.Prelude.{filter, flat_map}
use Rattle.std.specs.List.{list_any}
use Rattle.std.specs.Option.{is_some}
use Rattle.std.proofs.lemmas.Bool.Decides.{nat_tests}
use Rattle.std.proofs.lemmas.List.Folds.{list_any_at}
use Rattle.std.proofs.lemmas.List.{drop_all, get_or-map, get_or-take, length-map, length-take-le}
use Rattle.tui_cells.specs.declared.rect.Rect.{Rect}
use Rattle.tui_cells.specs.declared.style.Style.{Style}
use Rattle.tui_cells.specs.Cell.{set_style}
use Rattle.tui_cells.specs.Rect.{covers, intersection_of}
use Rattle.tui_layout.specs.declared.direction.Direction.{Direction}
use Rattle.tui_layout.specs.declared.direction.Direction.TheVariants.{Vertical}
use Rattle.tui_text.specs.Line.{LineData}
use Rattle.tui_text.specs.Painting.{row_layers}
use Rattle.tui_text.specs.declared.alignment.Alignment.{Alignment}
use Rattle.tui_bars.specs.Labels.{alignment_of, titled_layers}
use Rattle.tui_cells.specs.Buffer.{Screen}
use Rattle.tui_cells.specs.Layers.{Layer, Painted, stroke}
use Rattle.tui_cells.specs.Style.{patched}
use Rattle.tui_cells.proofs.Painting.{Painted-none, Painted-then}
use Rattle.tui_frames.specs.Space.{past}
use Rattle.tui_bars.proofs.GaugeStrokes.{ok_then}
use Rattle.tui_bars.specs.Areas.{fill_layers}
use Rattle.tui_bars.specs.BarChart.{BarChartData, BarData, GroupData, value_text}
use Rattle.tui_bars.specs.ChartStrokes.{bar_layers, directed_layers, group_layers, vertical_plan, walk_layers}
use Rattle.tui_bars.specs.HorizontalBars.{
  beyond_layers,
  char_start_from,
  filled_of,
  group_row_layers,
  left_layers,
  horizontal_bar_layers,
  middle_of,
  rest_layers,
  row_value_layers,
  strip_layers,
  within_layers,
}
use Rattle.tui_bars.specs.Shown.{PlacedBar, Shown, bars_of, place_after, placed_bars, shown_groups, shown_in, space_after, step_of}
use Rattle.tui_bars.specs.VerticalBars.{group_label_layers, has_room, value_place, value_text_layers}
use Rattle.tui_cells.specs.declared.position.Position.{Position}
use Rattle.tui_text.specs.Setting.{set_layers, styled_text}
use Rattle.tui_text.specs.Span.{raw_span}
use Rattle.tui_text.specs.Width.{span_width}
use Rattle.tui_bars.specs.declared.plan.Pass.{Pass}
use Rattle.tui_bars.specs.declared.plan.Pass.TheVariants.{Columns, Texts, Rows}
use Rattle.tui_bars.specs.declared.plan.ChartPlan.{ChartPlan}

-- one more bar
pub bar_more : {A : Type 0} (f : A → BarData) (xs : List A) (c : BarChartData) (paint : PlacedBar → List Layer) (at next j n : ℕ) (x : A) (a b d : Screen) → j < n →
    n ≤ length (map f xs) → x ≡ get_or xs j x → next ≡ step_of c at →
    Painted (paint (record { at = at; bar = f x })) a b →
    Painted (flat_map paint (placed_bars c next (drop (j + 1) (take n (map f xs))))) b d →
    Painted (flat_map paint (placed_bars c at (drop j (take n (map f xs))))) a d
unfolding placed_bars
bar_more f xs c paint at next j n x a b d lt le here ns p q =
    let ys = map f xs in
    let inside : j < length (take n ys) = rw (length-take-le n ys le) lt in
    let short : j < length xs = omega (arith, length-map xs f) in
    let item : get_or (take n ys) j (f x) ≡ f x = get_or-take n ys j (f x) lt ∙ (get_or-map f xs j x (f x) short ∙ sym (ap f here)) in
    let whole : drop j (take n ys) ≡ f x ∷ drop (j + 1) (take n ys) = rw (add-one, drop-cons (take n ys) j (f x) inside, item) refl in
    rw (whole, ← ns) (Painted-then p q)

pub bar_done : {A : Type 0} (f : A → BarData) (xs : List A) (c : BarChartData) (paint : PlacedBar → List Layer) (at j n : ℕ) (a : Screen) → n ≤ j → n ≤ length (map f xs) →
    Painted (flat_map paint (placed_bars c at (drop j (take n (map f xs))))) a a
unfolding placed_bars
bar_done f xs c paint at j n a le within =
    let e : drop j (take n (map f xs)) ≡ [] = drop_all j (take n (map f xs)) (rw (length-take-le n (map f xs) within) le) in rw e (Painted-none a)

-- a group's label and then its bars
pub group_texts : {T E : Type 0} (result : Result T E) (c : BarChartData) (plan : ChartPlan) (pass : Pass) (s : Shown) (a b d : Screen) → pass ≡ Texts →
    Painted (group_label_layers c plan s) a b → OnOk result (Painted (flat_map (bar_layers c plan pass) (bars_of c s)) b d) →
    OnOk result (Painted (group_layers c plan pass s) a d)
unfolding group_layers
group_texts result c plan pass s a b d e p q = rw e (ok_then result _ _ p (rw e at q))

-- a group's bars and then its label
pub group_rows : {T E : Type 0} (result : Result T E) (c : BarChartData) (plan : ChartPlan) (pass : Pass) (s : Shown) (a b d : Screen) → pass ≡ Rows →
    Painted (flat_map (bar_layers c plan pass) (bars_of c s)) a b → OnOk result (Painted (group_row_layers c plan s) b d) →
    OnOk result (Painted (group_layers c plan pass s) a d)
unfolding group_layers
group_rows result c plan pass s a b d e p q = rw e (ok_then result _ _ (rw e at p) q)

-- one more group
pub group_more : {A : Type 0} (f : A → GroupData) (xs : List A) (c : BarChartData) (paint : Shown → List Layer) (at space i bars n next left : ℕ) (x : A) (a b d : Screen) → i < length xs →
    x ≡ get_or xs i x → bars ≡ length (f x).bars → n ≡ shown_in c space bars → next ≡ place_after c at n → left ≡ space_after c space bars →
    Painted (if n == 0 then [] else paint (record { at = at; count = n; group = f x })) a b →
    Painted (flat_map paint (shown_groups c next left (drop (i + 1) (map f xs)))) b d →
    Painted (flat_map paint (shown_groups c at space (drop i (map f xs)))) a d
unfolding shown_groups
group_more f xs c paint at space i bars n next left x a b d lt here bs ns es ls p q =
    let inside : i < length (map f xs) = rw (length-map xs f) lt in
    let item : get_or (map f xs) i (f x) ≡ f x = get_or-map f xs i x (f x) lt ∙ sym (ap f here) in
    let whole : drop i (map f xs) ≡ f x ∷ drop (i + 1) (map f xs) = rw (add-one, drop-cons (map f xs) i (f x) inside, item) refl in
    rw (whole, ← bs, ← ns, ← es, ← ls) (chosen (n == 0) _ _ _ _ _ p q)
  where
    chosen : (none : Bool) (s : Shown) (rest : List Shown) (a b d : Screen) → Painted (if none then [] else paint s) a b →
        Painted (flat_map paint rest) b d → Painted (flat_map paint (if none then rest else (s ∷ rest))) a d
    chosen true s rest a b d p q = Painted-then p q
    chosen false s rest a b d p q = Painted-then p q

pub group_done : {A : Type 0} (f : A → GroupData) (xs : List A) (c : BarChartData) (paint : Shown → List Layer) (at space i : ℕ) (a : Screen) → length xs ≤ i →
    Painted (flat_map paint (shown_groups c at space (drop i (map f xs)))) a a
unfolding shown_groups
group_done f xs c paint at space i a le =
    let e : drop i (map f xs) ≡ [] = drop_all i (map f xs) (rw (length-map xs f) le) in rw e (Painted-none a)

-- a horizontal bar with its label and value
pub row_painted : {T E : Type 0} (result : Result T E) (c : BarChartData) (plan : ChartPlan) (at : ℕ) (bar : BarData) (filled middle : ℕ) (style value_style : Style) (text : List ℕ)
    (a b d e g : Screen) → filled ≡ filled_of plan bar → middle ≡ middle_of c at → style ≡ patched c.bar_style bar.style → value_style ≡ patched c.value_style bar.value_style →
    text ≡ value_text bar → Painted (strip_layers c plan at filled style) a b → Painted (left_layers plan middle bar) b d →
    Painted (within_layers plan middle filled text value_style) d e → OnOk result (Painted (beyond_layers plan middle filled text style) e g) →
    OnOk result (Painted (horizontal_bar_layers c plan at bar) a g)
unfolding horizontal_bar_layers row_value_layers
row_painted result c plan at bar filled middle style value_style text a b d e g fs ms ss vs ts p q r last =
    rw (← fs, ← ms, ← ss, ← vs, ← ts) (ok_then result _ _ (Painted-then p q) (ok_then result _ _ r last))

pub strip_painted : {T E : Type 0} (result : Result T E) (c : BarChartData) (plan : ChartPlan) (at filled : ℕ) (style : Style) (x w : ℕ) (a b d : Screen) →
    x ≡ past plan.start filled → w ≡ plan.length - filled →
    Painted (fill_layers plan.area (record { x = plan.start; y = at; width = filled; height = c.width }) c.symbols.full style) a b →
    OnOk result (Painted (fill_layers plan.area (record { x = x; y = at; width = w; height = c.width }) c.symbols.empty style) b d) →
    OnOk result (Painted (strip_layers c plan at filled style) a d)
unfolding strip_layers
strip_painted result c plan at filled style x w a b d xs ws p q = rw (← xs, ← ws) (ok_then result _ _ p q)

-- the part of a text that is past the filled cells
pub beyond_painted : {T E : Type 0} (result : Result T E) (plan : ChartPlan) (middle filled from : ℕ) (text : List ℕ) (style : Style) (a b : Screen) →
    filled < length text → from ≡ char_start_from filled text → OnOk result (Painted (rest_layers plan middle from text style) a b) →
    OnOk result (Painted (beyond_layers plan middle filled text style) a b)
unfolding beyond_layers
beyond_painted result plan middle filled from text style a b lt fs p =
    let e : nat_lt filled (length text) ≡ true = grind (arith, nat_tests) in rw (e, ← fs) p

-- a value's text that fits
pub value_text_painted : (c : BarChartData) (plan : ChartPlan) (at filled : ℕ) (text : List ℕ) (style : Style) (place : Position) (a b : Screen) (fits : Bool) →
    fits ≡ has_room c.width (span_width false (raw_span text)) filled → not fits ≡ false → place ≡ value_place c plan at text →
    Painted (set_layers plan.area place (styled_text text style) 65535) a b → Painted (value_text_layers c plan at filled text style) a b
unfolding value_text_layers
value_text_painted c plan at filled text style place a b fits es not_not ps p =
    let moved = subst (λ (x : Position). Painted (set_layers plan.area x (styled_text text style) 65535) a b) ps p in
    subst (λ (ls : List Layer). Painted ls a b) (pick_true (has_room c.width (span_width false (raw_span text)) filled) fits _ _ es not_not) moved
  where
    pick_true : {A : Type 0} (b t : Bool) (x y : A) → t ≡ b → not t ≡ false → x ≡ (if b then x else y)
    pick_true true t x y e n = refl
    pick_true false true x y e n = cc
    pick_true false false x y e n = cc

-- a label in its part of the clip
pub titled_painted : {T E : Type 0} (result : Result T E) (c : BarChartData) (clip part : Rect) (label : LineData) (inside : Rect) (alignment : Alignment) (a b d : Screen) →
    inside ≡ intersection_of clip part → alignment ≡ alignment_of label → Painted (stroke (covers inside) (set_style c.label_style)) a b →
    OnOk result (Painted (row_layers inside alignment label) b d) → OnOk result (Painted (titled_layers c clip part label) a d)
unfolding titled_layers
titled_painted result c clip part label inside alignment a b d is as_ p q =
    let moved = subst (λ (r : Rect). OnOk result (Painted (row_layers r alignment label) b d)) is q in
    ok_then result _ _ (subst (λ (r : Rect). Painted (stroke (covers r) (set_style c.label_style)) a b) is p)
    (subst (λ (x : Alignment). OnOk result (Painted (row_layers (intersection_of clip part) x label) b d)) as_ moved)

-- both passes over a vertical chart
pub vertical_painted : {T E : Type 0} (result : Result T E) (c : BarChartData) (area : Rect) (plan : ChartPlan) (direction : Direction) (a b d : Screen) →
    direction ≡ Vertical → plan ≡ vertical_plan c area → Painted (walk_layers c plan Columns area.x area.width) a b →
    OnOk result (Painted (walk_layers c plan Texts area.x area.width) b d) → OnOk result (Painted (directed_layers c area direction) a d)
vertical_painted result c area plan direction a b d ds ps p q =
    subst (λ (v : Direction). OnOk result (Painted (directed_layers c area v) a d)) (sym ds)
    (ok_then result _ _ (subst (λ (x : ChartPlan). Painted (walk_layers c x Columns area.x area.width) a b) ps p)
    (subst (λ (x : ChartPlan). OnOk result (Painted (walk_layers c x Texts area.x area.width) b d)) ps q))

-- an element that passes a test
pub any_found : {A B : Type 0} (p : B → Bool) (f : A → B) (xs ys : List A) (i : ℕ) (x : A) → ys ≡ xs → i < length ys → x ≡ get_or ys i x → p (f x) ≡ true → true ≡ list_any p (map f xs)
any_found p f xs ys i x same lt here e =
    let inside : i < length xs = rw (← same) lt in
    let at : x ≡ get_or xs i x = rw (← same) here in
    let item : get_or (map f xs) i (f x) ≡ f x = get_or-map f xs i x (f x) inside ∙ sym (ap f at) in
    sym (list_any_at p (map f xs) i (f x) (rw (length-map xs f) inside) (rw item e))

pub some_mapped : {A B : Type 0} (f : A → B) (o : Option A) → is_some (option_map f o) ≡ is_some o
some_mapped f None = refl
some_mapped f (Some x) = refl

-- filtering and then mapping is the same as mapping and then filtering
pub filter_seen : {A B : Type 0} (f : A → B) (p : B → Bool) (xs : List A) → map f (filter (λ x. p (f x)) xs) ≡ filter p (map f xs)
filter_seen f p [] = refl
filter_seen f p (x ∷ xs) = kept (p (f x)) (filter_seen f p xs)
  where
    kept : (b : Bool) → map f (filter (λ x. p (f x)) xs) ≡ filter p (map f xs) →
        map f (if b then x ∷ filter (λ x. p (f x)) xs else filter (λ x. p (f x)) xs) ≡ (if b then f x ∷ filter p (map f xs) else filter p (map f xs))
    kept true e = ap (λ ys. f x ∷ ys) e
    kept false e = e
