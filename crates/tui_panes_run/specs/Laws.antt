-- What holds for the program's output.
use Rattle.std.specs.Prelude.{◌≡◌, ℕ, All, List, [], ◌∷◌, IsSome, Ok, Err, slice_set}
use Rattle.serde_json.specs.Data.{Data}
use Rattle.tui_cells.specs.Buffer.{IsFilled, Screen}
use Rattle.tui_cells.specs.Cell.{blank}
use Rattle.tui_scene.specs.Item.{PlacedData}
use Rattle.tui_scene.specs.Laws.{Draws}
use Rattle.tui_scene.specs.Shadow.{HasNoShadow}
use Rattle.tui_panes_lib.specs.Draw.{HaveNoShadow}
use Rattle.tui_panes_lib.specs.Replace.{item_in_leaf}
use Rattle.tui_panes_run.specs.Changes.{ChangeData}
use Rattle.tui_json.specs.Faults.{Leads}
use Rattle.tui_panes_run.specs.Faults.{input_fault}
use Rattle.tui_panes_run.specs.declared.refusal.PanesRefusal.{PanesRefusal}
use Rattle.tui_panes_run.specs.Input.{InputData, input_of}
use Rattle.tui_panes_run.specs.Rules.{IsWritten}
use Rattle.tui_panes_run.specs.Shown.{ArePanesShown, leaves_of, screen_area}
use Rattle.tui_panes_run.specs.declared.command.PanesCommand.{PanesCommand}
use Rattle.tui_panes_run.specs.declared.command.PanesCommand.TheVariants as command
use Rattle.tui_panes_run.specs.declared.order.Order.{Order}
use Rattle.tui_panes_run.specs.declared.order.Order.TheVariants as order

-- an input has one output
abbrev pub OutputIsOne : Type 0
OutputIsOne = (c : PanesCommand) (input : InputData) (text other : List ℕ) → IsWritten c input text → IsWritten c input other → other ≡ text

-- no widget of a leaf or of a change has a shadow
abbrev pub HasNoShadows : InputData → Type 0
HasNoShadows input = HaveNoShadow (leaves_of input) × All (λ c. HasNoShadow c.item) input.changes

-- the leaves with their widgets after the changes, each with the state that the input gives it
abbrev pub leaves_after : List PlacedData → List ChangeData → List PlacedData
leaves_after leaves [] = leaves
leaves_after leaves (c ∷ cs) = leaves_after (slice_set leaves c.leaf (item_in_leaf leaves c.leaf c.item)) cs

-- On a blank buffer, the final widgets draw this screen, from first to last, and leave the states `last`. With these
-- states they draw it again.
pub record AreDrawnFromBlank (input : InputData) (last : List PlacedData) (screen : Screen) : Type 0 where
  pub first : Screen
  pub blank_first : IsFilled (screen_area input) blank first
  pub given : Draws (leaves_after (leaves_of input) input.changes) last first screen
  pub again : Draws last last first screen

-- without shadows the printed screen is that one, whatever the order of the first drawing
abbrev pub PrintsAsFromBlank : Type 0
PrintsAsFromBlank = (o : Order) (d : Data) (input : InputData) (text : List ℕ) → input_of d ≡ Ok input → HasNoShadows input →
    (shown : ArePanesShown o input text) → AreDrawnFromBlank input shown.last shown.screen

-- and drawing from last to first writes the same as drawing from first to last
abbrev pub ReverseIsSame : Type 0
ReverseIsSame = (d : Data) (input : InputData) (text other : List ℕ) → input_of d ≡ Ok input → HasNoShadows input →
    IsWritten (command.Draw order.FirstToLast) input text → IsWritten (command.Draw order.LastToFirst) input other → other ≡ text

-- An input that is rejected has a fault, and its steps lead to what it says is there.
pub record InputsAreExplained : Type 0 where
  pub found : (d : Data) (refusal : PanesRefusal) → input_of d ≡ Err refusal → IsSome (input_fault d)
  pub leads : (d : Data) → Leads (input_fault d) d
