-- Laws of drawing an input: its strokes stay in its footprint.
use Rattle.std.specs.Prelude.{◌≡◌, ◌==◌, Bool, true, false, [], ◌∷◌, length, if◌then◌else◌}
use Rattle.std.proofs.Common.{arith, refl}
use Rattle.std.proofs.lemmas.Bool.Decides.{nat_tests}
use Rattle.tui_cells.specs.declared.rect.Rect.{Rect}
use Rattle.tui_cells.specs.Cell.{set_style}
use Rattle.tui_cells.specs.Layers.{StayIn}
use Rattle.tui_cells.specs.Rect.{covers}
use Rattle.tui_cells.specs.Stays.{StayIn-append, StayIn-none, StayIn-stroke}
use Rattle.tui_cells.specs.Style.{no_style}
use Rattle.tui_frames.specs.Footprint.{footprint_if}
use Rattle.tui_frames.specs.InBlock.{inner_of}
use Rattle.tui_frames.specs.InBlockStays.{block_stays_if, clip_stays, inner_stays}
use Rattle.tui_input.specs.Input.{InputData, content_layers, has_cell, input_layers, room_of, shown_pieces, text_layers}
use Rattle.tui_input.specs.Scroll.{scrolled}
use Rattle.tui_input.specs.State.{TypedText, text_of}
use Rattle.tui_text.proofs.SetStays.{Inside, clusters_stay, set_stays}
use Rattle.tui_text.specs.Setting.{corner, set_clusters, set_layers}

row_inside : (area : Rect) → has_cell area ≡ true → Inside area area.x (room_of area)
row_inside area e = record { left = omega arith; right = grind (arith, nat_tests); high = grind (arith, nat_tests) }

text_stays : (i : InputData) (inner : Rect) (s : TypedText) (none : Bool) → has_cell inner ≡ true
    → StayIn (covers inner)
    (if none then set_layers inner (corner inner) (i.placeholder ∷ []) inner.width
    else set_clusters inner.x inner.y (room_of inner) no_style (shown_pieces i.mask s))
text_stays i inner s true e = set_stays inner (corner inner) (i.placeholder ∷ []) inner.width
text_stays i inner s false e = clusters_stay inner inner.x (room_of inner) no_style (shown_pieces i.mask s) (row_inside inner e)

inside_stays : (i : InputData) (inner : Rect) (s : TypedText) (some : Bool) → has_cell inner ≡ some
    → StayIn (covers inner) (if some then text_layers i inner s else [])
unfolding text_layers
inside_stays i inner s true e = text_stays i inner s (length (text_of s) == 0) e
inside_stays i inner s false e = StayIn-none

-- what is drawn inside the block stays there
pub content_stays : (i : InputData) (inner : Rect) (s : TypedText) → StayIn (covers inner) (content_layers i inner s)
content_stays i inner s = inside_stays i inner (scrolled i.mask (room_of inner) s) (has_cell inner) refl

-- an input changes only cells of its footprint
pub input_stays : (i : InputData) (s : TypedText) (clip : Rect) → StayIn (footprint_if i.block clip) (input_layers i s clip)
input_stays i s clip =
    StayIn-append (clip_stays i.block clip (StayIn-stroke (covers clip) (set_style i.style) (λ x y out. out)))
    (StayIn-append (block_stays_if i.block clip) (inner_stays i.block clip (content_stays i (inner_of i.block clip) s)))
