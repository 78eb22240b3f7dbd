use Rattle.std.proofs.Common.{Some, option_map, ◌∙◌, ap, sym}
use Rattle.serde_json.specs.View.{items_view}
use Rattle.tui_json.specs.Faults.{fault_data, fault_of, index, inside, items_fault}
use Rattle.tui_json.proofs.Faulty.{fault_first, same_fault}
use Rattle.tui_json.proofs.explains.items_fault.Goals as goal

pub returns-in-Some : goal.returns-in-Some
returns-in-Some g c =
    let of_value = fault_of g.T.Kind.kind g.T.Explains.wanted g.T.Explains.part_fault in
    let found = fault_data c.in-Some.fault in
    let all = items_fault of_value 0 (items_view c.args.values.now) in
    let some = sym c.in_ok-fault.ensures ∙ ap (option_map fault_data) c.in-Some.is in
    let first = fault_first of_value c.values.index c.args.values.now c.index-values-index.result found all
    c.values-test.true c.index-values-index.is some c.values.invariant in
    same_fault c.inside.result (inside (index c.values.index) (Some found)) all first c.inside.ensures
