-- What a block shows if its shadow has an effect given by the caller.
use Rattle.std.specs.Prelude.{◌≡◌, false, [], ◌∷◌, ◌++◌, unwrap_or}
use Rattle.tui_cells.specs.declared.rect.Rect.{Rect}
use Rattle.tui_cells.specs.Buffer.{Screen}
use Rattle.tui_cells.specs.Cell.{set_style}
use Rattle.tui_cells.specs.Layers.{KeptOutside, Painted, over}
use Rattle.tui_cells.specs.Rect.{intersection_of, is_empty}
use Rattle.tui_frames.specs.Block.{BlockData}
use Rattle.tui_frames.specs.Shadow.{ShadowData, in_shadow, overlay, shadow_area, shadow_of}
use Rattle.tui_frames.specs.Strokes.{frame_layers}

-- the shadow whose style and offset count: the block's, or else an overlay
abbrev pub effect_shadow : BlockData → ShadowData
effect_shadow b = unwrap_or b.shadow (shadow_of overlay)

-- the part of the shadow's area that lies in a buffer
abbrev pub effect_area : BlockData → Rect → Screen → Rect
effect_area b clip screen = intersection_of (shadow_area (effect_shadow b) clip) screen.area

-- the block without its shadow, then the style of the shadow's cells, and then the outcome of one use of the effect,
-- which changes only cells of the shadow
pub record ShowsEffect (postcondition : Rect → Rect → Screen → Screen → Type 0) (b : BlockData) (clip : Rect) (before after : Screen) : Type 0 where
  pub shown : is_empty clip ≡ false → (styled : Screen)
      × Painted (frame_layers b clip ++ over (in_shadow (effect_area b clip before) clip) (set_style (effect_shadow b).style ∷ [])) before styled
      × postcondition (effect_area b clip before) clip styled after × KeptOutside (in_shadow (effect_area b clip before) clip) styled after
