-- When drawing an input does not allocate, and the input as a stateful widget.
use Rattle.std.specs.Prelude.{ℕ, All, List, [], ◌∷◌, Option, None, Some}
use Rattle.tui_cells.specs.Cell.{IsAllocationFree}
use Rattle.tui_cells.specs.Drawing.{StatefulDrawing}
use Rattle.tui_frames.specs.Footprint.{footprint_if}
use Rattle.tui_frames.specs.InBlock.{IsAllocationFreeIfBlock, inner_of}
use Rattle.tui_frames.specs.InBlockStays.{nowhere_if}
use Rattle.tui_frames.proofs.InBlock.{inner_empty}
use Rattle.tui_input.specs.Input.{InputData, InputMoves, input_after, input_layers}
use Rattle.tui_input.specs.InputSettles.{empty_rests, input_settles}
use Rattle.tui_input.specs.InputStays.{input_stays}
use Rattle.tui_input.specs.Scroll.{shown}
use Rattle.tui_input.specs.State.{TypedText}
use Rattle.tui_text.specs.Setting.{AreAllocationFree}

-- drawing what is beside the text does not allocate
pub record IsAllocationFreeAround (i : InputData) : Type 0 where
  pub block : IsAllocationFreeIfBlock i.block
  pub placeholder : AreAllocationFree (i.placeholder ∷ [])

-- the clusters of a text, as they are shown, do not allocate
pub record IsAllocationFreeText (mask : Option (List ℕ)) (s : TypedText) : Type 0 where
  pub before : All IsAllocationFree (shown mask s.before)
  pub after : All IsAllocationFree (shown mask s.after)

-- the mask does not allocate
abbrev pub IsAllocationFreeMask : Option (List ℕ) → Type 0
IsAllocationFreeMask None = ⊥
IsAllocationFreeMask (Some symbol) = IsAllocationFree symbol

-- drawing the input does not allocate, whatever its text is
pub record IsAllocationFreeInput (i : InputData) : Type 0 where
  pub around : IsAllocationFreeAround i
  pub mask : IsAllocationFreeMask i.mask

-- the input as a stateful widget: it draws its text with the state after the drawing, in which the cursor is visible
abbrev pub input_moving : InputData → StatefulDrawing TypedText
input_moving i = record {
  layers = input_layers i;
  footprint = footprint_if i.block;
  after = λ clip s. input_after i (inner_of i.block clip) s;
  shows = λ old new clip before after. InputMoves i clip old new;
  allocation_free = IsAllocationFreeInput i;
  stays = input_stays i;
  nowhere = nowhere_if i.block;
  rests = λ s clip e. empty_rests i s (inner_of i.block clip) (inner_empty i.block clip e);
  is_idempotent = λ s clip. input_settles i s (inner_of i.block clip);
}
