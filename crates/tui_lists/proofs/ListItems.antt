-- Heights, rows and items, one more at a time.
use Rattle.std.proofs.Common.{
  ◌≡◌,
  ℕ,
  suc,
  ◌+◌,
  ◌-◌,
  ◌<◌,
  ◌≤◌,
  ◌==◌,
  ◌&&◌,
  ◌||◌,
  min,
  Bool,
  List,
  [],
  ◌∷◌,
  ◌++◌,
  map,
  drop,
  take,
  length,
  get_or,
  Option,
  Result,
  OnOk,
  if◌then◌else◌,
  refl,
  ◌∙◌,
  ap,
  sym,
  subst,
  arith,
  add-one,
  drop-cons,
}
use Rattle.std.proofs.lemmas.List.{get_or-map, length-map, take_more}
use Rattle.tui_cells.specs.declared.rect.Rect.{Rect}
use Rattle.tui_cells.specs.declared.style.Style.{Style}
use Rattle.tui_cells.specs.Buffer.{Screen}
use Rattle.tui_cells.specs.Cell.{set_style}
use Rattle.tui_cells.specs.Rect.{columns_from, covers, rows_from}
use Rattle.tui_cells.specs.Style.{patched}
use Rattle.tui_cells.specs.Layers.{Painted, stroke}
use Rattle.tui_cells.proofs.Painting.{Painted-none, Painted-then}
use Rattle.tui_lists.specs.List.{ListData}
use Rattle.tui_lists.specs.ListItem.{ListItemData, heights_of, item_height}
use Rattle.tui_lists.specs.ListStrokes.{gutter_layers, gutter_of, item_layers, items_layers, mark_layers, row_of}
use Rattle.tui_lists.specs.Selection.{is_at}
use Rattle.tui_text.specs.Painting.{text_layers}
use Rattle.tui_text.proofs.Elements.{on_ok}

-- one more height
pub heights_more : {A : Type 0} (f : A → ListItemData) (xs : List A) (i : ℕ) (x : A) (h : ℕ) → i < length xs → x ≡ get_or xs i x → h ≡ item_height (f x) →
    take i (heights_of (map f xs)) ++ h ∷ [] ≡ take (i + 1) (heights_of (map f xs))
heights_more f xs i x h lt here hs =
    let mapped : i < length (map f xs) = rw (length-map xs f) lt in
    let all : i < length (heights_of (map f xs)) = rw (length-map (map f xs) item_height) mapped in
    let first : get_or (map f xs) i (f x) ≡ f x = get_or-map f xs i x (f x) lt ∙ sym (ap f here) in
    let found : get_or (heights_of (map f xs)) i h ≡ h = get_or-map item_height (map f xs) i (f x) h mapped ∙ (ap item_height first ∙ sym hs) in
    sym (take_more (heights_of (map f xs)) i h all ∙ ap (λ k. take i (heights_of (map f xs)) ++ k ∷ []) found)

-- one more row of a gutter
pub gutter_more : (l : ListData) (is_selected is_marked : Bool) (gutter row : Rect) (j n : ℕ) (a b c : Screen) → j < n →
    is_marked ≡ (is_selected && ((j == 0) || l.repeats)) → row ≡ rows_from gutter j 1 →
    Painted (mark_layers l is_marked row) a b →
    Painted (gutter_layers l is_selected gutter (j + 1) (n - (j + 1))) b c → Painted (gutter_layers l is_selected gutter j (n - j)) a c
unfolding gutter_layers
gutter_more l is_selected is_marked gutter row j n a b c lt m r p q =
    let e : n - j ≡ suc (n - (j + 1)) = omega arith in
    rw (e, ← m, ← r) (Painted-then p q)

pub gutter_done : (l : ListData) (is_selected : Bool) (gutter : Rect) (j n : ℕ) (a : Screen) → n ≤ j →
    Painted (gutter_layers l is_selected gutter j (n - j)) a a
unfolding gutter_layers
gutter_done l is_selected gutter j n a le = let e : n - j ≡ 0 = omega arith in rw e (Painted-none a)

-- one more item
pub items_more : {A : Type 0} (f : A → ListItemData) (xs : List A) (l : ListData) (inner : Rect) (selected : Option ℕ) (i used end : ℕ) (x : A)
    (g lines height row : ℕ) (rows : Rect) (at : Bool) (a b c : Screen) → i < end → end ≤ length xs → x ≡ get_or xs i x →
    g ≡ gutter_of l selected → lines ≡ item_height (f x) → height ≡ min lines (inner.height - used) → row ≡ row_of l.direction inner.height used height →
    rows ≡ rows_from inner row height → at ≡ is_at selected i → Painted (item_layers l g rows at (f x)) a b →
    Painted (items_layers l inner selected (i + 1) (used + height) (end - (i + 1)) (drop (i + 1) (map f xs))) b c →
    Painted (items_layers l inner selected i used (end - i) (drop i (map f xs))) a c
unfolding items_layers
items_more f xs l inner selected i used end x g lines height row rows at a b c lt le here gs ls hs ns rs ats p q =
    let e : end - i ≡ suc (end - (i + 1)) = omega arith in
    let inside : i < length (map f xs) = rw (length-map xs f) (omega arith) in
    let item : get_or (map f xs) i (f x) ≡ f x = get_or-map f xs i x (f x) (omega arith) ∙ sym (ap f here) in
    let whole : drop i (map f xs) ≡ f x ∷ drop (i + 1) (map f xs) = rw (add-one, drop-cons (map f xs) i (f x) inside, item) refl in
    let h : height ≡ min (item_height (f x)) (inner.height - used) = rw (← ls) hs in
    rw (e, whole, ← h, ← ns, ← gs, ← rs, ← ats) (Painted-then p q)

pub items_done : (l : ListData) (inner : Rect) (selected : Option ℕ) (i used end : ℕ) (items : List ListItemData) (a : Screen) → end ≤ i →
    Painted (items_layers l inner selected i used (end - i) items) a a
unfolding items_layers
items_done l inner selected i used end items a le = let e : end - i ≡ 0 = omega arith in rw e (Painted-none a)

-- the strokes of one item
pub item_painted : {T E : Type 0} (result : Result T E) (l : ListData) (g : ℕ) (rows : Rect) (is_selected : Bool) (item : ListItemData)
    (style : Style) (others firsts : Rect) (a b c d e : Screen) →
    style ≡ patched l.style item.style → others ≡ columns_from rows g rows.width → firsts ≡ columns_from rows 0 g →
    Painted (stroke (covers rows) (set_style style)) a b → Painted (text_layers others item.content) b c →
    Painted (if is_selected then stroke (covers rows) (set_style l.highlight_style) else []) c d →
    OnOk result (Painted (gutter_layers l is_selected firsts 0 firsts.height) d e) → OnOk result (Painted (item_layers l g rows is_selected item) a e)
unfolding item_layers
item_painted result l g rows is_selected item style others firsts a b c d e ss os fs p q r last =
    let high : firsts.height ≡ rows.height = ap (λ (k : Rect). k.height) fs in
    on_ok result
    (λ s. rw (← ss, ← os, ← fs)
    (Painted-then p (Painted-then q (Painted-then r (subst (λ (n : ℕ). Painted (gutter_layers l is_selected firsts 0 n) d e) high s)))))
    last
