-- Facts about a widget with a block.
use Rattle.std.proofs.Common.{◌≡◌, true, List, ◌++◌, Option, None, Some, Result, OnOk, arith, subst}
use Rattle.std.proofs.lemmas.Bool.Decides.{nat_tests}
use Rattle.std.proofs.lemmas.List.{append_assoc}
use Rattle.tui_cells.specs.declared.rect.Rect.{Rect}
use Rattle.tui_cells.specs.Buffer.{Screen}
use Rattle.tui_cells.specs.declared.style.Style.{Style}
use Rattle.tui_cells.specs.Cell.{set_style}
use Rattle.tui_cells.specs.Layers.{KeptOutside, Layer, Painted, stroke}
use Rattle.tui_cells.specs.Rect.{covers, is_empty}
use Rattle.tui_cells.proofs.Painting.{KeptOutside-weaker, Painted-then}
use Rattle.tui_frames.specs.Block.{BlockData}
use Rattle.tui_frames.specs.Footprint.{footprint_if}
use Rattle.tui_frames.specs.InBlock.{block_layers_if, frame_layers, inner_of}
use Rattle.tui_frames.specs.InBlockStays.{clip_out, inner_out}
use Rattle.tui_frames.specs.Space.{inner}
use Rattle.tui_text.proofs.Elements.{on_ok}

empty_within : (b : BlockData) (area : Rect) → is_empty area ≡ true → is_empty (inner b area) ≡ true
empty_within b area e = grind (arith, nat_tests)

-- an empty area has an empty inner area
pub inner_empty : (o : Option BlockData) (area : Rect) → is_empty area ≡ true → is_empty (inner_of o area) ≡ true
inner_empty None area e = e
inner_empty (Some b) area e = empty_within b area e

-- what keeps all cells outside the inner area keeps all cells outside the footprint
pub inner_kept : (o : Option BlockData) (clip : Rect) {a b : Screen} → KeptOutside (covers (inner_of o clip)) a b → KeptOutside (footprint_if o clip) a b
inner_kept o clip k = KeptOutside-weaker (λ x y out. inner_out o clip x y (clip_out o clip x y out)) k

-- the style, the block, and then the content
pub framed : {T E : Type 0} (result : Result T E) (block : Option BlockData) (style : Style) (clip : Rect) (content : List Layer) (a b c : Screen) →
    Painted (frame_layers block style clip) a b → OnOk result (Painted content b c) →
    OnOk result (Painted (stroke (covers clip) (set_style style) ++ (block_layers_if block clip ++ content)) a c)
framed result block style clip content a b c p q =
    let parts = append_assoc (stroke (covers clip) (set_style style)) (block_layers_if block clip) content in
    on_ok result (λ last. subst (λ (layers : List Layer). Painted layers a c) parts (Painted-then p last)) q
