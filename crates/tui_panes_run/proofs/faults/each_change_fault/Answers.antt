use Rattle.std.proofs.Common.{◌≡◌, option_map, sym, subst, ap, ◌∙◌}
use Rattle.serde_json.specs.View.{items_view, view}
use Rattle.tui_json.specs.Faults.{fault_data, index, inside}
use Rattle.tui_json.specs.Refusals.{Rejects, refused}
use Rattle.tui_json.specs.declared.input_error.InputError.{InputError}
use Rattle.tui_json.proofs.Faulty.{same_fault}
use Rattle.tui_panes_run.specs.Changes.{change_in}
use Rattle.tui_panes_run.specs.Faults.{each_change_fault}
use Rattle.tui_panes_run.specs.declared.refusal.PanesRefusal.{PanesRefusal}
use Rattle.tui_panes_run.proofs.FaultLoops.{changes_end, changes_first, changes_more}
use Rattle.tui_panes_run.proofs.faults.each_change_fault.Goals as goal

pub returns-in-Err-Refused : goal.returns-in-Err-Refused
returns-in-Err-Refused c =
    let all = each_change_fault c.args.counts.leaves 0 (items_view c.args.values.now) in
    let rejects = subst (λ (e : InputError PanesRefusal). Rejects (refused e) (change_in c.args.counts.leaves c.changes.index
    (view c.index-values-index.result))) c.in-Err-Refused.field-0-is c.in-Err-Refused.ensures in
    let first = changes_first c.args.counts.leaves c.changes.index c.args.values.now c.index-values-index.result c.in-Err-Refused.field-0-0 all
    c.changes-test.true c.index-values-index.is rejects c.changes.invariant in
    let here : inside (index c.changes.index) (option_map fault_data c.in_ok-change_fault-in-Err-Refused.field-0) ≡ all =
    ap (inside (index c.changes.index)) c.in_ok-change_fault-in-Err-Refused.ensures ∙ first in
    same_fault c.inside.result _ all here c.inside.ensures

pub changes-preserved : goal.changes-preserved
changes-preserved c =
    changes_more c.args.counts.leaves c.changes.index c.args.values.now c.index-values-index.result _ _ c.changes-test.true c.index-values-index.is
    c.in-Ok.ensures c.changes.invariant

pub returns : goal.returns
returns c = sym (changes_end c.args.counts.leaves c.changes.index c.args.values.now _ c.changes-test.false c.changes.invariant)
