use Rattle.std.proofs.Common.{◌≡◌, drop}
use Rattle.serde_json.specs.View.{items_view}
use Rattle.tui_json.specs.Objects.{are_objects}
use Rattle.tui_json.proofs.object.are_objects.Given as goal

-- the values so far are objects, so the others decide
abbrev pub invariant-values : goal.invariant-values
invariant-values l = are_objects (items_view l.values) ≡ are_objects (items_view (drop l.value-index l.values))
