use Rattle.std.proofs.Common.{◌≡◌, ◌++◌, map, take}
use Rattle.std.specs.List.{flat_map}
use Rattle.tui_form_lib.specs.Field.{field_data}
use Rattle.tui_form_run.specs.Answers.{answer_tokens}
use Rattle.tui_form_run.proofs.answers.write_answers.Given as goal

abbrev pub invariant-fields : goal.invariant-fields
invariant-fields l =
    (l.out.before ≡ l.initial.out.before)
    × (l.out.tokens ≡ l.initial.out.tokens ++ flat_map answer_tokens (map field_data (take l.field-index l.fields)))
