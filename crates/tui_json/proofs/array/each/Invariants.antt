use Rattle.std.proofs.Common.{◌≡◌, drop, map}
use Rattle.serde_json.specs.View.{items_view}
use Rattle.tui_json.specs.Members.{each_of}
use Rattle.tui_json.proofs.Arrays.{prepended}
use Rattle.tui_json.proofs.array.each.Given as goal

abbrev pub invariant-loop-value : goal.invariant-loop-value
invariant-loop-value g l =
    prepended (map g.T.Kind.as_data l.read.items) (each_of g.T.Kind.kind (items_view (drop l.value-index l.values)))
    ≡ each_of g.T.Kind.kind (items_view l.values)
