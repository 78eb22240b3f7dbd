use Rattle.std.proofs.Common.{◌≡◌, drop}
use Rattle.serde_json.specs.View.{items_view}
use Rattle.tui_json.specs.Faults.{fault_of, items_fault}
use Rattle.tui_json.proofs.explains.items_fault.Given as goal

abbrev pub invariant-values : goal.invariant-values
invariant-values g l =
    items_fault (fault_of g.T.Kind.kind g.T.Explains.wanted g.T.Explains.part_fault) l.index (items_view (drop l.index l.values))
    ≡ items_fault (fault_of g.T.Kind.kind g.T.Explains.wanted g.T.Explains.part_fault) 0 (items_view l.values)
