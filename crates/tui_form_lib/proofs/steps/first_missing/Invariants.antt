use Rattle.std.proofs.Common.{◌≡◌, None, map, take}
use Rattle.std.specs.List.{position_from}
use Rattle.tui_form_lib.proofs.steps.first_missing.Given as goal
use Rattle.tui_form_lib.specs.Field.{field_data, is_missing}

abbrev pub invariant-loop-place : goal.invariant-loop-place
invariant-loop-place l = position_from is_missing 0 (map field_data (take l.place l.fields)) ≡ None
