-- Laws for the drawing of a widget with a block: its strokes stay in its footprint.
use Rattle.std.specs.Prelude.{◌≡◌, ℕ, true, false, Option, None, Some, List}
use Rattle.std.proofs.Common.{arith}
use Rattle.std.proofs.lemmas.Bool.Decides.{nat_tests}
use Rattle.tui_cells.specs.declared.rect.Rect.{Rect}
use Rattle.tui_cells.specs.Layers.{Layer, StayIn}
use Rattle.tui_cells.specs.Rect.{covers, is_empty}
use Rattle.tui_cells.specs.Stays.{StayIn-append, StayIn-none}
use Rattle.tui_cells.proofs.Painting.{covers_nowhere}
use Rattle.tui_cells.proofs.Regions.{StayIn-wider, first_out}
use Rattle.tui_frames.specs.Block.{BlockData}
use Rattle.tui_frames.specs.Footprint.{footprint_if, footprint_of}
use Rattle.tui_frames.specs.InBlock.{block_layers_if, in_block_layers, inner_of}
use Rattle.tui_frames.specs.Shadow.{ShadowData, shadow_area}
use Rattle.tui_frames.specs.Space.{inner}
use Rattle.tui_frames.specs.Stays.{block_stays, footprint_nowhere}

inner_within : (b : BlockData) (area : Rect) (x y : ℕ) → covers area x y ≡ false → covers (inner b area) x y ≡ false
inner_within b area x y out = grind (arith, nat_tests)

-- a position outside an area is outside its inner area
pub inner_out : (o : Option BlockData) (area : Rect) (x y : ℕ) → covers area x y ≡ false → covers (inner_of o area) x y ≡ false
inner_out None area x y out = out
inner_out (Some b) area x y out = inner_within b area x y out

by_shadow : (s : Option ShadowData) (clip : Rect) (x y : ℕ) → footprint_of s clip x y ≡ false → covers clip x y ≡ false
by_shadow None clip x y out = out
by_shadow (Some s) clip x y out = first_out (covers (shadow_area s clip) x y) (covers clip x y) out

-- a position outside the footprint is outside the clip
pub clip_out : (o : Option BlockData) (clip : Rect) (x y : ℕ) → footprint_if o clip x y ≡ false → covers clip x y ≡ false
clip_out None clip x y out = out
clip_out (Some b) clip x y out = by_shadow b.shadow clip x y out

-- over an empty clip the footprint is empty
pub nowhere_if : (o : Option BlockData) (clip : Rect) → is_empty clip ≡ true → (x y : ℕ) → footprint_if o clip x y ≡ false
nowhere_if None clip e x y = covers_nowhere clip e x y
nowhere_if (Some b) clip e x y = footprint_nowhere b.shadow clip e x y

-- the strokes of the block, if there is one, stay in the footprint
pub block_stays_if : (o : Option BlockData) (clip : Rect) → StayIn (footprint_if o clip) (block_layers_if o clip)
block_stays_if None clip = StayIn-none
block_stays_if (Some b) clip = block_stays b clip

-- strokes in the clip of a widget stay in its footprint
pub clip_stays : (o : Option BlockData) (clip : Rect) {ls : List Layer} → StayIn (covers clip) ls → StayIn (footprint_if o clip) ls
clip_stays o clip s = StayIn-wider (λ x y out. clip_out o clip x y out) s

-- so do strokes in the area inside its block
pub inner_stays : (o : Option BlockData) (clip : Rect) {ls : List Layer} → StayIn (covers (inner_of o clip)) ls → StayIn (footprint_if o clip) ls
inner_stays o clip s = StayIn-wider (λ x y out. inner_out o clip x y (clip_out o clip x y out)) s

-- the block, followed by content that stays inside
pub in_block_stays : (block : Option BlockData) (content : Rect → List Layer) (clip : Rect) →
    StayIn (covers (inner_of block clip)) (content (inner_of block clip)) → StayIn (footprint_if block clip) (in_block_layers block content clip)
in_block_stays block content clip inside = StayIn-append (block_stays_if block clip) (inner_stays block clip inside)
