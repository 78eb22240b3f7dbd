-- What a block does to the cells inside it.
use Rattle.std.proofs.Common.{
  ◌≡◌,
  ℕ,
  ◌+◌,
  ◌-◌,
  ◌/◌,
  ◌≤◌,
  min,
  Bool,
  true,
  false,
  ◌&&◌,
  ◌||◌,
  ◌==◌,
  not,
  nat_le,
  cond,
  List,
  [],
  ◌∷◌,
  ◌++◌,
  Option,
  Some,
  None,
  map,
  if◌then◌else◌,
  refl,
  ◌∙◌,
  ap,
  sym,
  arith,
}
use Rattle.std.specs.List.{filter, list_any}
use Rattle.std.proofs.lemmas.Bool.{and_parts}
use Rattle.std.proofs.lemmas.Bool.Decides.{nat_tests}
use Rattle.tui_cells.specs.declared.rect.Rect.{Rect}
use Rattle.tui_cells.specs.Cell.{Look, set_style, restyled, merge}
use Rattle.tui_cells.specs.Layers.{StayIn, layers_at, stroke}
use Rattle.tui_cells.specs.Rect.{columns_from, covers, intersection_of}
use Rattle.tui_cells.specs.Stays.{StayIn-append, StayIn-none, StayIn-over, StayIn-stroke}
use Rattle.tui_cells.proofs.Painting.{layers_at-append}
use Rattle.tui_cells.proofs.Regions.{StayIn-wider}
use Rattle.tui_text.specs.Line.{LineData}
use Rattle.tui_text.specs.Painting.{cells_at}
use Rattle.tui_text.specs.declared.alignment.Alignment.{Alignment}
use Rattle.tui_text.specs.declared.alignment.Alignment.TheVariants.{Left, Center, Right}
use Rattle.tui_text.proofs.RowStays.{row_stays}
use Rattle.tui_frames.specs.Block.{BlockData, TitleData}
use Rattle.tui_frames.specs.Borders.{bottom, has, left, right, top}
use Rattle.tui_frames.specs.Laws.{InsideIsStyled}
use Rattle.tui_frames.specs.Shadow.{ShadowData, in_shadow, kind_edits, shadow_area, shadow_layers}
use Rattle.tui_frames.specs.Space.{bottom_edge, count, inner, top_edge}
use Rattle.tui_frames.specs.Strokes.{
  border_layers,
  corner_layers,
  corners_layers,
  frame_layers,
  last_column,
  last_row,
  place_of,
  row_at,
  row_titles,
  shadow_layers_if,
  sides_layers,
  strip_of,
  title_layers,
  titles_cut,
  titles_from,
  titles_in_middle,
  titles_to_end,
}
use Rattle.tui_frames.specs.Titles.{has_title, is_in, is_on, title_width, titles_in, total}
use Rattle.tui_frames.specs.InBlockStays.{inner_out}
use Rattle.tui_frames.specs.declared.title_position.TitlePosition.{TitlePosition}
use Rattle.tui_frames.specs.declared.title_position.TitlePosition.TheVariants.{Top, Bottom}

-- a clip whose far edges are at most 65535
pub record Fits (c : Rect) : Type 0 where
  pub wide : c.x + c.width ≤ 65535
  pub high : c.y + c.height ≤ 65535

-- all positions except those inside
abbrev around : BlockData → Rect → ℕ → ℕ → Bool
around b c x y = not (covers (inner b c) x y)

inside_of : (b : BlockData) (c : Rect) (x y : ℕ) → around b c x y ≡ false → covers (inner b c) x y ≡ true
inside_of b c x y e = grind arith

-- a position inside a block is in none of its columns and rows of borders
left_out : (b : BlockData) (c : Rect) (first height x y : ℕ) → Fits c → has b.borders left ≡ true → covers (inner b c) x y ≡ true →
    covers (intersection_of c (record { x = c.x; y = first; width = 1; height = height })) x y ≡ false
left_out b c first height x y fits set inside = grind (arith, nat_tests, fits.wide)

right_out : (b : BlockData) (c : Rect) (first height x y : ℕ) → Fits c → has b.borders right ≡ true → covers (inner b c) x y ≡ true →
    covers (intersection_of c (record { x = last_column c; y = first; width = 1; height = height })) x y ≡ false
right_out b c first height x y fits set inside = grind (arith, nat_tests, fits.wide)

-- nor in its first or last row, if there is a border or a title
top_out : (b : BlockData) (c : Rect) (first width x y : ℕ) → Fits c → top_edge b ≡ 1 → covers (inner b c) x y ≡ true →
    covers (intersection_of c (cells_at first c.y width)) x y ≡ false
top_out b c first width x y fits set inside = grind (arith, nat_tests, fits.high)

bottom_out : (b : BlockData) (c : Rect) (first width x y : ℕ) → Fits c → bottom_edge b ≡ 1 → covers (inner b c) x y ≡ true →
    covers (intersection_of c (cells_at first (last_row c) width)) x y ≡ false
bottom_out b c first width x y fits set inside = grind (arith, nat_tests, fits.high)

-- borders stay around the inside
border_around : (b : BlockData) (c part : Rect) (t : Bool) (symbol : List ℕ) →
    (t ≡ true → (x y : ℕ) → covers (inner b c) x y ≡ true → covers (intersection_of c part) x y ≡ false) → StayIn (around b c) (border_layers b c t part symbol)
border_around b c part false symbol out = StayIn-none
border_around b c part true symbol out =
    StayIn-append (StayIn-stroke (covers (intersection_of c part)) (merge b.strategy symbol) (λ x y e. out refl x y (inside_of b c x y e)))
    (StayIn-stroke (covers (intersection_of c part)) (set_style b.border_style) (λ x y e. out refl x y (inside_of b c x y e)))

by_border : (b : BlockData) (side : ℕ) (t : Bool) → has b.borders side ≡ true → count (has b.borders side || t) ≡ 1
by_border b side t e = rw e refl

sides_around : (b : BlockData) (c : Rect) → Fits c → StayIn (around b c) (sides_layers b c)
unfolding sides_layers
sides_around b c fits = StayIn-append (StayIn-append (StayIn-append
    (border_around b c _ _ _ (λ set x y inside. left_out b c _ _ x y fits set inside))
    (border_around b c _ _ _ (λ set x y inside. top_out b c _ _ x y fits (by_border b top (has_title b Top) set) inside)))
    (border_around b c _ _ _ (λ set x y inside. right_out b c _ _ x y fits set inside)))
    (border_around b c _ _ _ (λ set x y inside. bottom_out b c _ _ x y fits (by_border b bottom (has_title b Bottom) set) inside))

corner_around : (b : BlockData) (c : Rect) (side other x y : ℕ) (symbol : List ℕ) →
    (has b.borders side ≡ true → (u v : ℕ) → covers (inner b c) u v ≡ true → covers (intersection_of c (cells_at x y 1)) u v ≡ false) →
    StayIn (around b c) (corner_layers b c side other x y symbol)
corner_around b c side other x y symbol out = border_around b c _ _ symbol (λ both u v inside. out (and_parts (has b.borders side) (has b.borders other) both).0 u v inside)

corners_around : (b : BlockData) (c : Rect) → Fits c → StayIn (around b c) (corners_layers b c)
unfolding corners_layers
corners_around b c fits = StayIn-append (StayIn-append (StayIn-append
    (corner_around b c bottom right _ _ _ (λ set x y inside. bottom_out b c _ _ x y fits (by_border b bottom (has_title b Bottom) set) inside))
    (corner_around b c top right _ _ _ (λ set x y inside. top_out b c _ _ x y fits (by_border b top (has_title b Top) set) inside)))
    (corner_around b c bottom left _ _ _ (λ set x y inside. bottom_out b c _ _ x y fits (by_border b bottom (has_title b Bottom) set) inside)))
    (corner_around b c top left _ _ _ (λ set x y inside. top_out b c _ _ x y fits (by_border b top (has_title b Top) set) inside))

-- titles stay in their row
row_out : (c strip : Rect) (first width x y : ℕ) → strip.height ≤ 1 → (y == strip.y) ≡ false → covers (intersection_of c (columns_from strip first width)) x y ≡ false
row_out c strip first width x y one e = grind (arith, nat_tests)

title_in_row : (b : BlockData) (c strip : Rect) (first width : ℕ) (a : Alignment) (t : LineData) → strip.height ≤ 1 →
    StayIn (λ x y. y == strip.y) (title_layers b c (columns_from strip first width) a t)
title_in_row b c strip first width a t one =
    StayIn-append (StayIn-stroke (covers (intersection_of c (columns_from strip first width))) (set_style b.title_style) (λ x y e. row_out c strip first width x y one e))
    (StayIn-wider (λ x y e. row_out c strip first width x y one e) (row_stays (intersection_of c (columns_from strip first width)) a t))

from_in_row : (b : BlockData) (c strip : Rect) (column : ℕ) (ts : List LineData) → strip.height ≤ 1 → StayIn (λ x y. y == strip.y) (titles_from b c strip column ts)
unfolding titles_from
from_in_row b c strip column [] one = StayIn-none
from_in_row b c strip column (t ∷ ts) one = StayIn-append (title_in_row b c strip _ _ _ t one) (from_in_row b c strip (column + title_width t + 1) ts one)

to_end_in_row : (b : BlockData) (c strip : Rect) (ts : List LineData) → strip.height ≤ 1 → StayIn (λ x y. y == strip.y) (titles_to_end b c strip ts)
unfolding titles_to_end
to_end_in_row b c strip [] one = StayIn-none
to_end_in_row b c strip (t ∷ ts) one = StayIn-append (to_end_in_row b c strip ts one) (title_in_row b c strip _ _ _ t one)

cut_in_row : (b : BlockData) (c strip : Rect) (cut column : ℕ) (ts : List LineData) → strip.height ≤ 1 → StayIn (λ x y. y == strip.y) (titles_cut b c strip cut column ts)
unfolding titles_cut
cut_in_row b c strip cut column [] one = StayIn-none
cut_in_row b c strip cut column (t ∷ ts) one = StayIn-append (title_in_row b c strip _ _ _ t one)
    (cut_in_row b c strip cut (column + (min (title_width t) (strip.width - column) - (cut - column)) + 1) ts one)

middle_by : (b : BlockData) (c strip : Rect) (ts : List LineData) (fits : Bool) → strip.height ≤ 1 →
    StayIn (λ x y. y == strip.y)
    (if fits then titles_from b c strip ((strip.width - total ts) / 2) ts else titles_cut b c strip ((total ts - strip.width) / 2) 0 ts)
middle_by b c strip ts true one = from_in_row b c strip _ ts one
middle_by b c strip ts false one = cut_in_row b c strip _ 0 ts one

middle_in_row : (b : BlockData) (c strip : Rect) (ts : List LineData) → strip.height ≤ 1 → StayIn (λ x y. y == strip.y) (titles_in_middle b c strip ts)
unfolding titles_in_middle
middle_in_row b c strip ts one = middle_by b c strip ts (nat_le (total ts) strip.width) one

strip_low : (b : BlockData) (c : Rect) (p : TitlePosition) → (strip_of b c p).height ≤ 1
strip_low b c p = omega arith

titles_in_row : (b : BlockData) (c : Rect) (p : TitlePosition) → StayIn (λ x y. y == row_at c p) (row_titles b c p)
unfolding row_titles
titles_in_row b c p =
    let one = strip_low b c p in
    StayIn-append (StayIn-append (from_in_row b c (strip_of b c p) 0 _ one) (middle_in_row b c (strip_of b c p) _ one)) (to_end_in_row b c (strip_of b c p) _ one)

neither : (s t : Bool) → (s || t) ≡ false → (s ≡ false) × (t ≡ false)
neither true t e = cc
neither false t e = (refl, e)

-- without a title on a side there is none in its places
none_in : (b : BlockData) (p : TitlePosition) (a : Alignment) (ts : List TitleData) → list_any (is_on b p) ts ≡ false → titles_in b (place_of p a) ts ≡ []
none_in b p a [] e = refl
none_in b p a (t ∷ ts) e =
    let parts : (is_on b p t ≡ false) × (list_any (is_on b p) ts ≡ false) = neither _ _ e in
    let out : is_in b (place_of p a) t ≡ false = rw parts.0 refl in
    ap (λ (k : Bool). map (λ (u : TitleData). u.line) (cond k (t ∷ filter (is_in b (place_of p a)) ts) (filter (is_in b (place_of p a)) ts))) out
    ∙ none_in b p a ts parts.1

middle_none : (b : BlockData) (c strip : Rect) → titles_in_middle b c strip [] ≡ []
unfolding titles_in_middle titles_from titles_cut
middle_none b c strip = by_room (nat_le (total []) strip.width)
  where
    by_room : (fits : Bool) → (if fits then titles_from b c strip ((strip.width - total []) / 2) [] else titles_cut b c strip ((total [] - strip.width) / 2) 0 []) ≡ []
    by_room true = refl
    by_room false = refl

row_none : (b : BlockData) (c : Rect) (p : TitlePosition) → has_title b p ≡ false → row_titles b c p ≡ []
unfolding row_titles titles_from titles_to_end
row_none b c p e =
    rw (none_in b p Left b.titles e, none_in b p Center b.titles e, none_in b p Right b.titles e, middle_none b c (strip_of b c p)) refl

not_top : (b : BlockData) (c : Rect) (x y : ℕ) → Fits c → top_edge b ≡ 1 → covers (inner b c) x y ≡ true → (y == c.y) ≡ false
not_top b c x y fits set inside = grind (arith, nat_tests, fits.high)

not_bottom : (b : BlockData) (c : Rect) (x y : ℕ) → Fits c → bottom_edge b ≡ 1 → covers (inner b c) x y ≡ true → (y == last_row c) ≡ false
not_bottom b c x y fits set inside = grind (arith, nat_tests, fits.high)

by_title : (s t : Bool) → t ≡ true → count (s || t) ≡ 1
by_title true t e = refl
by_title false t e = rw e refl

not_row : (b : BlockData) (c : Rect) (p : TitlePosition) (x y : ℕ) → Fits c → has_title b p ≡ true → covers (inner b c) x y ≡ true → (y == row_at c p) ≡ false
not_row b c Top x y fits set inside = not_top b c x y fits (by_title (has b.borders top) (has_title b Top) set) inside
not_row b c Bottom x y fits set inside = not_bottom b c x y fits (by_title (has b.borders bottom) (has_title b Bottom) set) inside

row_around : (b : BlockData) (c : Rect) (p : TitlePosition) (t : Bool) → has_title b p ≡ t → Fits c → StayIn (around b c) (row_titles b c p)
row_around b c p true e fits = StayIn-wider (λ x y out. not_row b c p x y fits e (inside_of b c x y out)) (titles_in_row b c p)
row_around b c p false e fits = rw (row_none b c p e) StayIn-none

-- what is inside lies in the clip
in_clip_by : (b : BlockData) (c : Rect) (x y : ℕ) (t : Bool) → covers c x y ≡ t → covers (inner b c) x y ≡ true → t ≡ true
in_clip_by b c x y true e inside = refl
in_clip_by b c x y false e inside = sym (inner_out (Some b) c x y e) ∙ inside

pub in_clip : (b : BlockData) (c : Rect) (x y : ℕ) → covers (inner b c) x y ≡ true → covers c x y ≡ true
in_clip b c x y inside = in_clip_by b c x y (covers c x y) refl inside

shade_inside : (b : BlockData) (s : Option ShadowData) (c : Rect) (x y : ℕ) (k : Look) → covers c x y ≡ true → layers_at (shadow_layers_if s c) x y k ≡ k
unfolding shadow_layers
shade_inside b None c x y k inside = refl
shade_inside b (Some s) c x y k inside =
    (StayIn-over (in_shadow (shadow_area s c) c) (set_style s.style ∷ kind_edits s.kind)).cell x y (base_out (covers (shadow_area s c) x y) (covers c x y) inside) k
  where
    base_out : (area base : Bool) → base ≡ true → (area && not base) ≡ false
    base_out area base e = grind arith

frame_inside : (b : BlockData) (c : Rect) (x y : ℕ) (k : Look) → Fits c → covers (inner b c) x y ≡ true → layers_at (frame_layers b c) x y k ≡ restyled b.style k
frame_inside b c x y k fits inside =
    let out : around b c x y ≡ false = rw inside refl in
    let first = stroke (covers c) (set_style b.style) in
    let dressed_at : layers_at first x y k ≡ restyled b.style k = rw (in_clip b c x y inside) refl in
    layers_at-append (first ++ sides_layers b c ++ corners_layers b c ++ row_titles b c Top) (row_titles b c Bottom) x y k
    ∙ ((row_around b c Bottom _ refl fits).cell x y out _
    ∙ (layers_at-append (first ++ sides_layers b c ++ corners_layers b c) (row_titles b c Top) x y k
    ∙ ((row_around b c Top _ refl fits).cell x y out _
    ∙ (layers_at-append (first ++ sides_layers b c) (corners_layers b c) x y k
    ∙ ((corners_around b c fits).cell x y out _
    ∙ (layers_at-append first (sides_layers b c) x y k
    ∙ ((sides_around b c fits).cell x y out _ ∙ dressed_at)))))))

pub inside : InsideIsStyled
inside b c x y k wide high within =
    layers_at-append (frame_layers b c) (shadow_layers_if b.shadow c) x y k
    ∙ (shade_inside b b.shadow c x y _ (in_clip b c x y within) ∙ frame_inside b c x y k (record { wide = wide; high = high }) within)
