use Rattle.tui_form_run.proofs.Tokens.{all_parts}
use Rattle.tui_form_run.proofs.answers.write_answers.Goals as goal

pub returns-clause-tokens : goal.returns-clause-tokens
returns-clause-tokens c =
    all_parts c.args.fields.now c.fields.field-index _ _ _ _ c.fields-test.false c.in_ok-begin_object.ensures.ok c.fields.invariant.1
    c.in_ok-end_object.ensures.ok
