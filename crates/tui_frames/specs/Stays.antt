-- Laws for drawing: the strokes of blocks and shadows stay in their footprints.
use Rattle.std.specs.Prelude.{◌≡◌, ℕ, ◌+◌, ◌-◌, ◌/◌, min, Bool, true, false, List, [], ◌∷◌, ◌++◌, Option, Some, None, nat_le, if◌then◌else◌}
use Rattle.tui_cells.specs.declared.rect.Rect.{Rect}
use Rattle.tui_cells.specs.Cell.{set_style, merge}
use Rattle.tui_cells.specs.Layers.{StayIn}
use Rattle.tui_cells.specs.Rect.{covers, intersection_of, is_empty}
use Rattle.tui_cells.specs.Stays.{StayIn-append, StayIn-none, StayIn-over, StayIn-stroke}
use Rattle.tui_cells.proofs.Painting.{covers_nowhere}
use Rattle.tui_cells.proofs.Regions.{StayIn-wider, either_out, first_out, outside_both, shade_out}
use Rattle.tui_text.specs.Line.{LineData}
use Rattle.tui_text.specs.declared.alignment.Alignment.{Alignment}
use Rattle.tui_text.proofs.RowStays.{row_stays}
use Rattle.tui_frames.specs.Block.{BlockData}
use Rattle.tui_frames.specs.Footprint.{block_footprint, footprint_of}
use Rattle.tui_frames.specs.Shadow.{ShadowData, in_shadow, kind_edits, shadow_area, shadow_footprint, shadow_layers}
use Rattle.tui_frames.specs.Strokes.{
  block_layers,
  border_layers,
  corners_layers,
  frame_layers,
  row_titles,
  shadow_layers_if,
  sides_layers,
  title_layers,
  titles_cut,
  titles_from,
  titles_in_middle,
  titles_to_end,
}
use Rattle.tui_frames.specs.Titles.{title_width, total}
use Rattle.tui_frames.specs.declared.title_position.TitlePosition.{TitlePosition}
use Rattle.tui_frames.specs.declared.title_position.TitlePosition.TheVariants.{Top, Bottom}

-- shadows
pub shadow_stays : (s : ShadowData) (c : Rect) → StayIn (shadow_footprint s c) (shadow_layers s c)
unfolding shadow_layers
shadow_stays s c =
    StayIn-wider (λ x y out. shade_out (covers (shadow_area s c) x y) (covers c x y) out)
    (StayIn-over (in_shadow (shadow_area s c) c) (set_style s.style ∷ kind_edits s.kind))

-- over an empty base the footprint is empty
pub shadow_nowhere : (s : ShadowData) (c : Rect) → is_empty c ≡ true → (x y : ℕ) → shadow_footprint s c x y ≡ false
shadow_nowhere s c e x y = either_out (covers c x y) (covers (shadow_area s c) x y) (covers_nowhere c e x y) (covers_nowhere (shadow_area s c) e x y)

-- borders
border_stays : (b : BlockData) (c : Rect) (t : Bool) (part : Rect) (symbol : List ℕ) → StayIn (covers c) (border_layers b c t part symbol)
border_stays b c false part symbol = StayIn-none
border_stays b c true part symbol =
    StayIn-append (StayIn-stroke (covers (intersection_of c part)) (merge b.strategy symbol) (outside_both c part))
    (StayIn-stroke (covers (intersection_of c part)) (set_style b.border_style) (outside_both c part))

sides_stay : (b : BlockData) (c : Rect) → StayIn (covers c) (sides_layers b c)
unfolding sides_layers
sides_stay b c =
    StayIn-append (StayIn-append (StayIn-append (border_stays b c _ _ _) (border_stays b c _ _ _)) (border_stays b c _ _ _)) (border_stays b c _ _ _)

corners_stay : (b : BlockData) (c : Rect) → StayIn (covers c) (corners_layers b c)
unfolding corners_layers
corners_stay b c =
    StayIn-append (StayIn-append (StayIn-append (border_stays b c _ _ _) (border_stays b c _ _ _)) (border_stays b c _ _ _)) (border_stays b c _ _ _)

-- titles
title_stays : (b : BlockData) (c part : Rect) (a : Alignment) (t : LineData) → StayIn (covers c) (title_layers b c part a t)
title_stays b c part a t =
    StayIn-append (StayIn-stroke (covers (intersection_of c part)) (set_style b.title_style) (outside_both c part))
    (StayIn-wider (outside_both c part) (row_stays (intersection_of c part) a t))

from_stays : (b : BlockData) (c strip : Rect) (column : ℕ) (ts : List LineData) → StayIn (covers c) (titles_from b c strip column ts)
unfolding titles_from
from_stays b c strip column [] = StayIn-none
from_stays b c strip column (t ∷ ts) = StayIn-append (title_stays b c _ _ t) (from_stays b c strip (column + title_width t + 1) ts)

to_end_stays : (b : BlockData) (c strip : Rect) (ts : List LineData) → StayIn (covers c) (titles_to_end b c strip ts)
unfolding titles_to_end
to_end_stays b c strip [] = StayIn-none
to_end_stays b c strip (t ∷ ts) = StayIn-append (to_end_stays b c strip ts) (title_stays b c _ _ t)

cut_stays : (b : BlockData) (c strip : Rect) (cut column : ℕ) (ts : List LineData) → StayIn (covers c) (titles_cut b c strip cut column ts)
unfolding titles_cut
cut_stays b c strip cut column [] = StayIn-none
cut_stays b c strip cut column (t ∷ ts) =
    StayIn-append (title_stays b c _ _ t) (cut_stays b c strip cut (column + (min (title_width t) (strip.width - column) - (cut - column)) + 1) ts)

middle_by : (b : BlockData) (c strip : Rect) (ts : List LineData) (fits : Bool) →
    StayIn (covers c)
    (if fits then titles_from b c strip ((strip.width - total ts) / 2) ts else titles_cut b c strip ((total ts - strip.width) / 2) 0 ts)
middle_by b c strip ts true = from_stays b c strip _ ts
middle_by b c strip ts false = cut_stays b c strip _ 0 ts

middle_stays : (b : BlockData) (c strip : Rect) (ts : List LineData) → StayIn (covers c) (titles_in_middle b c strip ts)
unfolding titles_in_middle
middle_stays b c strip ts = middle_by b c strip ts (nat_le (total ts) strip.width)

row_stay : (b : BlockData) (c : Rect) (p : TitlePosition) → StayIn (covers c) (row_titles b c p)
unfolding row_titles
row_stay b c p = StayIn-append (StayIn-append (from_stays b c _ 0 _) (middle_stays b c _ _)) (to_end_stays b c _ _)

-- blocks
pub frame_stays : (b : BlockData) (c : Rect) → StayIn (covers c) (frame_layers b c)
frame_stays b c = StayIn-append (StayIn-append (StayIn-append (StayIn-append
    (StayIn-stroke (covers c) (set_style b.style) (λ x y out. out)) (sides_stay b c)) (corners_stay b c)) (row_stay b c Top)) (row_stay b c Bottom)

stays_by : (b : BlockData) (s : Option ShadowData) (c : Rect) → StayIn (footprint_of s c) (frame_layers b c ++ shadow_layers_if s c)
stays_by b None c = StayIn-append (frame_stays b c) StayIn-none
stays_by b (Some s) c =
    StayIn-append (StayIn-wider (λ x y out. first_out (covers (shadow_area s c) x y) (covers c x y) out) (frame_stays b c)) (shadow_stays s c)

-- a block changes only cells of its footprint
pub block_stays : (b : BlockData) (c : Rect) → StayIn (block_footprint b c) (block_layers b c)
block_stays b c = stays_by b b.shadow c

-- over an empty clip the footprint is empty
pub footprint_nowhere : (s : Option ShadowData) (c : Rect) → is_empty c ≡ true → (x y : ℕ) → footprint_of s c x y ≡ false
footprint_nowhere None c e x y = covers_nowhere c e x y
footprint_nowhere (Some s) c e x y = shadow_nowhere s c e x y
