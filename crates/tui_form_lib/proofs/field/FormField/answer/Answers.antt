use Rattle.std.proofs.Common.{List, map, sym, ap, ◌∙◌}
use Rattle.std.specs.Prelude.{[], string_bytes, unwrap_or}
use Rattle.tui_form_lib.proofs.field.FormField.answer.Goals as goal
use Rattle.tui_form_lib.specs.Field.{answer_of, text_reply}
use Rattle.tui_form_lib.specs.Value.{chosen_text, value_data}
use Rattle.tui_form_lib.specs.declared.value.Value.{Value}

pub returns-in-Choice : goal.returns-in-Choice
returns-in-Choice c =
    let is = c.chosen_or_empty.ensures ∙ ap (λ (xs : List _). unwrap_or (chosen_text (map string_bytes xs) c.in-Choice.chosen) []) c.deref.ensures.value in
    ap text_reply is ∙ sym (ap (λ (v : Value). answer_of (value_data v)) c.in-Choice.is)
