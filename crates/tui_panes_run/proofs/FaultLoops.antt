-- Finding the first part and the first change that is rejected, one after another.
use Rattle.std.proofs.Common.{◌≡◌, ℕ, ◌+◌, ◌<◌, ◌≤◌, List, length, get_or, drop, Option, None, Ok, Err, refl, sym, ap, ◌∙◌}
use Rattle.std.proofs.lemmas.List.{drop_all}
use Rattle.serde_json.specs.View.{view, items_view}
use Rattle.serde_json.specs.declared.value.Value.{Value}
use Rattle.tui_json.proofs.Arrays.{items_view-drop}
use Rattle.tui_json.specs.Faults.{FaultData, index, inside}
use Rattle.tui_layout.specs.declared.constraint.Constraint.{Constraint}
use Rattle.tui_panes_lib.specs.Place.{PaneData}
use Rattle.tui_panes_run.specs.Changes.{ChangeData, change_in}
use Rattle.tui_panes_run.specs.Counts.{CountsData}
use Rattle.tui_panes_run.specs.Faults.{change_fault, each_change_fault, part_fault, parts_fault}
use Rattle.tui_panes_run.specs.Tree.{JsonCommand, part_in}
use Rattle.tui_panes_run.specs.declared.refusal.PanesRefusal.{PanesRefusal}
use Rattle.tui_schema.specs.Faults.{Finds}

-- a part that is read, and the counts after it
pub parts_more : (pane_of : JsonCommand PaneData) (fault : CountsData → Finds) (number i : ℕ) (at : CountsData) (vs : List Value) (v : Value)
    (read : (Constraint × PaneData) × CountsData) (all : Option FaultData) → i < length vs → v ≡ get_or vs i v → part_in pane_of number at (view v) ≡ Ok read
    → parts_fault pane_of fault number i at (items_view (drop i vs)) ≡ all
    → parts_fault pane_of fault number (i + 1) read.1 (items_view (drop (i + 1) vs)) ≡ all
unfolding parts_fault
parts_more pane_of fault number i at vs v read all lt is reads so_far =
    let here : parts_fault pane_of fault number i at (items_view (drop i vs)) ≡ parts_fault pane_of fault number (i + 1) read.1 (items_view (drop (i + 1) vs)) =
    ap (parts_fault pane_of fault number i at) (items_view-drop vs i v lt is) ∙ rw reads refl in
    sym here ∙ so_far

-- the first part that is rejected
pub parts_first : (pane_of : JsonCommand PaneData) (fault : CountsData → Finds) (number i : ℕ) (at : CountsData) (vs : List Value) (v : Value)
    (refusal : PanesRefusal) (all : Option FaultData) → i < length vs → v ≡ get_or vs i v → part_in pane_of number at (view v) ≡ Err refusal
    → parts_fault pane_of fault number i at (items_view (drop i vs)) ≡ all → inside (index i) (part_fault fault at (view v)) ≡ all
unfolding parts_fault
parts_first pane_of fault number i at vs v refusal all lt is rejects so_far =
    let here : parts_fault pane_of fault number i at (items_view (drop i vs)) ≡ inside (index i) (part_fault fault at (view v)) =
    ap (parts_fault pane_of fault number i at) (items_view-drop vs i v lt is) ∙ rw rejects refl in
    sym here ∙ so_far

-- no part is
pub parts_end : (pane_of : JsonCommand PaneData) (fault : CountsData → Finds) (number i : ℕ) (at : CountsData) (vs : List Value) (all : Option FaultData)
    → length vs ≤ i → parts_fault pane_of fault number i at (items_view (drop i vs)) ≡ all → all ≡ None
unfolding parts_fault
parts_end pane_of fault number i at vs all le so_far = sym so_far ∙ rw (drop_all i vs le) refl

-- a change that is read
pub changes_more : (leaves i : ℕ) (vs : List Value) (v : Value) (read : ChangeData) (all : Option FaultData) → i < length vs → v ≡ get_or vs i v
    → change_in leaves i (view v) ≡ Ok read → each_change_fault leaves i (items_view (drop i vs)) ≡ all
    → each_change_fault leaves (i + 1) (items_view (drop (i + 1) vs)) ≡ all
unfolding each_change_fault
changes_more leaves i vs v read all lt is reads so_far =
    let here : each_change_fault leaves i (items_view (drop i vs)) ≡ each_change_fault leaves (i + 1) (items_view (drop (i + 1) vs)) =
    ap (each_change_fault leaves i) (items_view-drop vs i v lt is) ∙ rw reads refl in
    sym here ∙ so_far

-- the first change that is rejected
pub changes_first : (leaves i : ℕ) (vs : List Value) (v : Value) (refusal : PanesRefusal) (all : Option FaultData) → i < length vs → v ≡ get_or vs i v
    → change_in leaves i (view v) ≡ Err refusal → each_change_fault leaves i (items_view (drop i vs)) ≡ all
    → inside (index i) (change_fault leaves i (view v)) ≡ all
unfolding each_change_fault
changes_first leaves i vs v refusal all lt is rejects so_far =
    let here : each_change_fault leaves i (items_view (drop i vs)) ≡ inside (index i) (change_fault leaves i (view v)) =
    ap (each_change_fault leaves i) (items_view-drop vs i v lt is) ∙ rw rejects refl in
    sym here ∙ so_far

-- no change is
pub changes_end : (leaves i : ℕ) (vs : List Value) (all : Option FaultData) → length vs ≤ i → each_change_fault leaves i (items_view (drop i vs)) ≡ all
    → all ≡ None
unfolding each_change_fault
changes_end leaves i vs all le so_far = sym so_far ∙ rw (drop_all i vs le) refl
