-- Rows of a table, one more at a time.
use Rattle.std.proofs.Common.{◌≡◌, ℕ, ◌+◌, ◌-◌, ◌<◌, ◌≤◌, min, List, [], ◌∷◌, ◌++◌, drop, length, map, take, get_or, Option, inl, inr, ◌∙◌, ap, sym, subst, arith}
use Rattle.std.specs.Prelude.{flat_map, slice_range}
use Rattle.std.specs.List.{enumerate_from}
use Rattle.std.proofs.lemmas.Bool.{cases_lt}
use Rattle.std.proofs.lemmas.Grind.{flat_map-append}
use Rattle.std.proofs.lemmas.List.{get_or-drop, get_or-map, length-drop, length-map, map-append, take_all, take_more}
use Rattle.std.proofs.lemmas.List.FromFn.{get_or-enumerate_from, length-enumerate_from}
use Rattle.tui_cells.specs.declared.rect.Rect.{Rect}
use Rattle.tui_cells.specs.Buffer.{Screen}
use Rattle.tui_cells.specs.Layers.{Painted}
use Rattle.tui_cells.proofs.Painting.{Painted-none, Painted-then}
use Rattle.tui_layout.proofs.Totals.{total-one, total-turned, total-prefix_sum}
use Rattle.tui_layout.specs.Sums.{total}
use Rattle.tui_layout.specs.declared.segment.Segment.{Segment}
use Rattle.tui_table.specs.Areas.{area_in}
use Rattle.tui_table.specs.Row.{RowData, heights_of, row_height}
use Rattle.tui_table.specs.declared.row_kind.RowKind.{RowKind}
use Rattle.tui_table.specs.Strokes.{kind_at, row_in, row_layers, rows_layers}
use Rattle.tui_table.specs.Table.{TableData}

-- the heights of the first rows, and of one more
pub heights_more : {A : Type 0} (f : A → RowData) (xs : List A) (i : ℕ) (x : A) (h : ℕ) (hs : List ℕ) → i < length xs → x ≡ get_or xs i x → h ≡ row_height (f x) →
    hs ≡ heights_of (map f (take i xs)) → hs ++ h ∷ [] ≡ heights_of (map f (take (i + 1) xs))
heights_more f xs i x h hs lt here e known =
    let more : take (i + 1) xs ≡ take i xs ++ x ∷ [] = take_more xs i x lt ∙ ap (λ y. take i xs ++ y ∷ []) (sym here) in
    let mapped : heights_of (map f (take (i + 1) xs)) ≡ heights_of (map f (take i xs)) ++ row_height (f x) ∷ [] =
    ap (λ ys. heights_of (map f ys)) more ∙ (ap heights_of (map-append f (take i xs) (x ∷ [])) ∙ map-append row_height (map f (take i xs)) (f x ∷ [])) in
    ap (λ ks. ks ++ h ∷ []) known ∙ (ap (λ k. heights_of (map f (take i xs)) ++ k ∷ []) e ∙ sym mapped)

-- a row as seen through a function
pub row_here : {A B : Type 0} (f : A → B) (xs : List A) (i : ℕ) (x : A) → i < length xs → x ≡ get_or xs i x → f x ≡ get_or (map f xs) i (f x)
row_here f xs i x lt here = sym (get_or-map f xs i x (f x) lt ∙ sym (ap f here))

-- one more row of a sum of heights
pub total_more : (rows : List RowData) (a i sum : ℕ) (r : RowData) → a ≤ i → i < length rows → r ≡ get_or rows i r →
    sum ≡ total (heights_of rows) a i → sum + row_height r ≡ total (heights_of rows) a (i + 1)
total_more rows a i sum r le lt here e =
    let xs = heights_of rows in
    let inside : i < length (heights_of rows) = rw (length-map rows row_height) lt in
    let found : get_or (heights_of rows) i 0 ≡ row_height r = get_or-map row_height rows i r 0 lt ∙ sym (ap row_height here) in
    omega (arith, e, found, total-prefix_sum xs a i le, total-prefix_sum xs a (i + 1) (omega arith), total-prefix_sum xs i (i + 1) (omega arith), total-one xs i inside)

pub total_none : (rows : List RowData) (a i : ℕ) → i ≤ a → 0 ≡ total (heights_of rows) a i
total_none rows a i le = sym (total-turned (heights_of rows) a i le)

slice_more : {A : Type 0} (xs : List A) (a i : ℕ) (x : A) → a ≤ i → i < length xs → x ≡ get_or xs i x → slice_range xs a (i + 1) ≡ slice_range xs a i ++ x ∷ []
slice_more xs a i x le lt here =
    let n : i + 1 - a ≡ (i - a) + 1 = omega arith in
    let back : a + (i - a) ≡ i = omega arith in
    let inside : i - a < length (drop a xs) = omega (arith, length-drop a xs) in
    let at : get_or (drop a xs) (i - a) x ≡ x = get_or-drop a xs (i - a) x ∙ (ap (λ (k : ℕ). get_or xs k x) back ∙ sym here) in
    ap (λ (k : ℕ). take k (drop a xs)) n ∙ (take_more (drop a xs) (i - a) x inside ∙ ap (λ y. take (i - a) (drop a xs) ++ y ∷ []) at)

-- no rows
pub rows_none : (t : TableData) (body : Rect) (gutter : ℕ) (columns : List Segment) (selected : Option ℕ) (first : ℕ) (a : Screen) →
    Painted (rows_layers t body gutter columns selected first first) a a
unfolding rows_layers
rows_none t body gutter columns selected first a = let e : first - first ≡ 0 = omega arith in rw e (Painted-none a)

-- one more row
pub rows_more : (t : TableData) (body area : Rect) (gutter : ℕ) (columns : List Segment) (selected : Option ℕ) (first i used : ℕ) (kind : RowKind) (r : RowData) (a b c : Screen) →
    first ≤ i → i < length t.rows → r ≡ get_or t.rows i r → used ≡ total (heights_of t.rows) first i → area ≡ area_in body used r → kind ≡ kind_at selected i →
    Painted (rows_layers t body gutter columns selected first i) a b → Painted (row_layers t gutter columns kind area r) b c →
    Painted (rows_layers t body gutter columns selected first (i + 1)) a c
unfolding rows_layers
rows_more t body area gutter columns selected first i used kind r a b c le lt here sum place at p q =
    let rows = enumerate_from 0 t.rows in
    let inside : i < length (enumerate_from 0 t.rows) = rw (length-enumerate_from 0 t.rows) lt in
    let count : 0 + i ≡ i = omega arith in
    let found : (i, r) ≡ get_or (enumerate_from 0 t.rows) i (i, r) =
    sym (get_or-enumerate_from 0 t.rows i (i, r) lt ∙ (ap (λ (n : ℕ). (n, get_or t.rows i r)) count ∙ ap (λ (y : RowData). (i, y)) (sym here))) in
    let P : List (ℕ × RowData) → Type 0 = λ rs. Painted (flat_map (row_in t body gutter columns selected first) rs) a c in
    let R : ℕ → RowKind → Type 0 = λ n k. Painted (row_layers t gutter columns k (area_in body n r) r) b c in
    let one : R (total (heights_of t.rows) first i) (kind_at selected i) =
    subst (λ k. R (total (heights_of t.rows) first i) k) at (subst (λ n. R n kind) sum
    (subst (λ (s : Rect). Painted (row_layers t gutter columns kind s r) b c) place q)) in
    subst P (sym (slice_more rows first i (i, r) le inside found))
    (rw (flat_map-append (row_in t body gutter columns selected first) (slice_range rows first i) ((i, r) ∷ [])) (Painted-then p (Painted-then one (Painted-none c))))

-- one row past the last adds nothing
slice_cut : {A : Type 0} (xs : List A) (a last end : ℕ) → a ≤ last → last ≤ length xs → end ≡ min (last + 1) (length xs) → slice_range xs a (last + 1) ≡ slice_range xs a end
slice_cut xs a last end le within e = elim (cases_lt last (length xs)) [
  | inl lt ↦ ap (λ (n : ℕ). take n (drop a xs)) (omega arith)
  | inr ge ↦ take_all (last + 1 - a) (drop a xs) (omega (arith, length-drop a xs)) ∙ sym (take_all (end - a) (drop a xs) (omega (arith, length-drop a xs)))
]

pub rows_cut : (t : TableData) (body : Rect) (gutter : ℕ) (columns : List Segment) (selected : Option ℕ) (first last end : ℕ) (a b : Screen) →
    first ≤ last → last ≤ length t.rows → end ≡ min (last + 1) (length t.rows) →
    Painted (rows_layers t body gutter columns selected first end) a b → Painted (rows_layers t body gutter columns selected first (last + 1)) a b
unfolding rows_layers
rows_cut t body gutter columns selected first last end a b le within e p =
    let rows = enumerate_from 0 t.rows in
    let P : List (ℕ × RowData) → Type 0 = λ rs. Painted (flat_map (row_in t body gutter columns selected first) rs) a b in
    subst P (sym (slice_cut rows first last end le (rw (length-enumerate_from 0 t.rows) within) (rw (length-enumerate_from 0 t.rows) e))) p
