use Rattle.std.proofs.Common.{◌≡◌, drop}
use Rattle.serde_json.specs.View.{items_view}
use Rattle.tui_form_run.specs.Input.{is_taken}
use Rattle.tui_form_run.proofs.reading.is_taken.Given as goal

-- no value so far has the name, so the remaining ones decide
abbrev pub invariant-values : goal.invariant-values
invariant-values l = is_taken l.name (items_view l.values) ≡ is_taken l.name (items_view (drop l.value-index l.values))
