-- A block's frame, the style of its shadow, and an effect in the shadow.
use Rattle.std.proofs.Common.{◌≡◌, ℕ, Bool, true, false, ◌&&◌, ◌||◌, not, List, [], ◌∷◌, refl, ◌∙◌, ap, subst, arith}
use Rattle.tui_cells.specs.declared.rect.Rect.{Rect}
use Rattle.tui_cells.specs.Buffer.{Screen}
use Rattle.tui_cells.specs.Cell.{Edit, set_style}
use Rattle.tui_cells.specs.Layers.{KeptOutside, Layer, Painted, over}
use Rattle.tui_cells.specs.Rect.{covers, intersection_of, offset_of}
use Rattle.tui_cells.proofs.Painting.{KeptOutside-then, KeptOutside-weaker, Painted-then}
use Rattle.tui_cells.proofs.Regions.{first_out, outside_both}
use Rattle.tui_frames.specs.Block.{BlockData}
use Rattle.tui_frames.specs.Effect.{ShowsEffect, effect_area, effect_shadow}
use Rattle.tui_frames.specs.Shadow.{ShadowData, in_shadow, shadow_area, shadow_data, shadow_footprint}
use Rattle.tui_frames.specs.Strokes.{frame_layers}
use Rattle.tui_frames.specs.declared.shadow.Shadow.{Shadow}
use Rattle.tui_frames.proofs.Shading.{over_kept}

-- the area that an effect is given
area_is : (b : BlockData) (c area : Rect) (s : Shadow) (screen : Screen) → shadow_data s ≡ effect_shadow b →
    area ≡ intersection_of (offset_of c s.offset) screen.area → area ≡ effect_area b c screen
area_is b c area s screen e f = f ∙ ap (λ (d : ShadowData). intersection_of (offset_of c d.offset) screen.area) e

pub effect_shown : (postcondition : Rect → Rect → Screen → Screen → Type 0) (b : BlockData) (c area : Rect) (s : Shadow) (before framed styled after : Screen) →
    shadow_data s ≡ effect_shadow b → area ≡ intersection_of (offset_of c s.offset) before.area →
    Painted (frame_layers b c) before framed → Painted (over (in_shadow area c) (set_style s.style ∷ [])) framed styled →
    KeptOutside (in_shadow area c) styled after → postcondition area c styled after →
    ShowsEffect postcondition b c before after
effect_shown postcondition b c area s before framed styled after e f p q kept left = record {
  shown = λ some.
      let place : area ≡ effect_area b c before = area_is b c area s before e f in
      let shade : Painted (over (in_shadow (effect_area b c before) c) (set_style (effect_shadow b).style ∷ [])) framed styled =
      subst (λ (ls : List Layer). Painted ls framed styled)
      (ap (λ (r : Rect). over (in_shadow r c) (set_style s.style ∷ [])) place
      ∙ ap (λ (d : ShadowData). over (in_shadow (effect_area b c before) c) (set_style d.style ∷ [])) e) q in (
        styled,
        Painted-then p shade,
        subst (λ (r : Rect). postcondition r c styled after) place left,
        subst (λ (r : Rect). KeptOutside (in_shadow r c) styled after) place kept,
      );
}

-- a position outside a base and a larger area is not in the part of an area outside the base
part_out : (area base part : Bool) → (area ≡ false → part ≡ false) → (base || area) ≡ false → (part && not base) ≡ false
part_out true base part e out = grind arith
part_out false base part e out = rw (e refl) refl

-- what keeps all cells outside the shadow within an area keeps all cells outside the footprint
shade_kept : (s : ShadowData) (c area : Rect) (a b : Screen) → ((x y : ℕ) → covers (shadow_area s c) x y ≡ false → covers area x y ≡ false) →
    KeptOutside (in_shadow area c) a b → KeptOutside (shadow_footprint s c) a b
shade_kept s c area a b within k = KeptOutside-weaker (λ x y out. part_out (covers (shadow_area s c) x y) (covers c x y) (covers area x y) (within x y) out) k

pub frame_kept : (s : ShadowData) (c : Rect) (a b : Screen) → KeptOutside (covers c) a b → KeptOutside (shadow_footprint s c) a b
frame_kept s c a b k = KeptOutside-weaker (λ x y out. first_out (covers (shadow_area s c) x y) (covers c x y) out) k

pub effect_kept : (b : BlockData) (c area : Rect) (s : Shadow) (es : List Edit) (before framed styled after : Screen) →
    shadow_data s ≡ effect_shadow b → area ≡ intersection_of (offset_of c s.offset) before.area →
    KeptOutside (covers c) before framed → Painted (over (in_shadow area c) es) framed styled → KeptOutside (in_shadow area c) styled after →
    KeptOutside (shadow_footprint (effect_shadow b) c) before after
effect_kept b c area s es before framed styled after e f p q r =
    let d = effect_shadow b in
    let place : area ≡ effect_area b c before = area_is b c area s before e f in
    let within : (x y : ℕ) → covers (shadow_area d c) x y ≡ false → covers area x y ≡ false =
    λ x y out. ap (λ (k : Rect). covers k x y) place ∙ outside_both (shadow_area d c) before.area x y out in
    KeptOutside-then (frame_kept d c before framed p)
    (KeptOutside-then (shade_kept d c area framed styled within (over_kept (in_shadow area c) es framed styled q)) (shade_kept d c area styled after within r))
