use Rattle.std.proofs.Common.{◌≡◌, option_map, sym, subst, ap, ◌∙◌}
use Rattle.serde_json.specs.View.{items_view, view}
use Rattle.tui_json.specs.Faults.{fault_data, index, inside}
use Rattle.tui_json.specs.Refusals.{Rejects, refused}
use Rattle.tui_json.specs.declared.input_error.InputError.{InputError}
use Rattle.tui_json.proofs.Faulty.{same_fault}
use Rattle.tui_panes_run.specs.Counts.{counts_data}
use Rattle.tui_panes_run.specs.Faults.{pane_fault, parts_fault}
use Rattle.tui_panes_run.specs.Tree.{pane_in, part_in}
use Rattle.tui_panes_run.specs.declared.refusal.PanesRefusal.{PanesRefusal}
use Rattle.tui_panes_run.proofs.FaultLoops.{parts_end, parts_first, parts_more}
use Rattle.tui_panes_run.proofs.faults.+faults.Goals as goal

pub parts_fault-returns-in-Err-Refused : goal.parts_fault-returns-in-Err-Refused
parts_fault-returns-in-Err-Refused t c =
    let all = parts_fault (pane_in c.args.room) (pane_fault c.args.room) c.args.number 0 (counts_data c.args.counts) (items_view c.args.values.now) in
    let rejects = subst (λ (e : InputError PanesRefusal). Rejects (refused e) (part_in (pane_in c.args.room) c.args.number (counts_data c.parts.at)
    (view c.index-values-index.result))) c.in-Err-Refused.field-0-is c.in-Err-Refused.ensures in
    let first = parts_first (pane_in c.args.room) (pane_fault c.args.room) c.args.number c.parts.index (counts_data c.parts.at) c.args.values.now
    c.index-values-index.result c.in-Err-Refused.field-0-0 all c.parts-test.true c.index-values-index.is rejects c.parts.invariant in
    let here : inside (index c.parts.index) (option_map fault_data c.in_ok-part_fault-in-Err-Refused.field-0) ≡ all =
    ap (inside (index c.parts.index)) c.in_ok-part_fault-in-Err-Refused.ensures ∙ first in
    same_fault c.inside.result _ all here c.inside.ensures

pub parts_fault-parts-preserved : goal.parts_fault-parts-preserved
parts_fault-parts-preserved t c =
    parts_more (pane_in c.args.room) (pane_fault c.args.room) c.args.number c.parts.index (counts_data c.parts.at) c.args.values.now
    c.index-values-index.result _ _ c.parts-test.true c.index-values-index.is c.in-Ok.ensures c.parts.invariant

pub parts_fault-returns : goal.parts_fault-returns
parts_fault-returns t c =
    sym (parts_end (pane_in c.args.room) (pane_fault c.args.room) c.args.number c.parts.index (counts_data c.parts.at) c.args.values.now
    _ c.parts-test.false c.parts.invariant)
