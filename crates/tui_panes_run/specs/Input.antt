-- The input. Its fields are tested in order. The first test that fails decides why the input is rejected.
use Rattle.std.specs.Prelude.{ℕ, List, map, None, Result, Ok, codes}
use Rattle.serde_json.specs.Data.{Data}
use Rattle.serde_json.specs.Find.{get}
use Rattle.tui_json.specs.Number.{within}
use Rattle.tui_json.specs.Refusals.{◌>>=◌, or_reject}
use Rattle.tui_panes_lib.specs.Pane.{pane_data}
use Rattle.tui_panes_lib.specs.Place.{PaneData}
use Rattle.tui_panes_run.specs.Changes.{ChangeData, change_data, changes_in}
use Rattle.tui_panes_run.specs.Counts.{no_panes}
use Rattle.tui_panes_run.specs.Refusals.{bad_pane}
use Rattle.tui_panes_run.specs.Tree.{pane_in, required}
use Rattle.tui_panes_run.specs.declared.field.PaneField.TheVariants as fields
use Rattle.tui_panes_run.specs.declared.input.Input.{Input}
use Rattle.tui_cells.specs.declared.size.Size.{Size}
use Rattle.tui_panes_run.specs.declared.refusal.PanesRefusal.{PanesRefusal}

-- the size of the screen, the tree of panes, and the changes
pub record InputData : Type 0 where
  pub size : Size
  pub root : PaneData
  pub changes : List ChangeData

abbrev pub input_data : Input → InputData
input_data input = record { size = input.size; root = pane_data input.root; changes = map change_data input.changes.items }

-- A value that is not an object has no fields, so it is rejected at `width`.
unfoldable pub size_in : Data → Result Size PanesRefusal
size_in d = do
  width ← required (within 1 1000) None fields.Width d
  height ← required (within 1 1000) None fields.Height d
  Ok (record { width = width; height = height })

-- the most levels below the root, so that a tree has at most 32
abbrev pub most_below : ℕ
most_below = 31

unfoldable pub input_of : Data → Result InputData PanesRefusal
input_of d = do
  size ← size_in d
  value ← or_reject (bad_pane None fields.Root) (get (codes "root") d)
  root ← pane_in most_below no_panes value
  changes ← changes_in root.1.leaves d
  Ok (record { size = size; root = root.0; changes = changes })
