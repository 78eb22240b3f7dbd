use Rattle.std.proofs.Common.{sym, ◌∙◌, arith}
use Rattle.tui_form_lib.proofs.Missing.{found_first, none_at_all, none_further}
use Rattle.tui_form_lib.proofs.steps.first_missing.Goals as goal
use Rattle.tui_form_lib.specs.Field.{field_data, is_missing}

pub returns-then-is_missing : goal.returns-then-is_missing
returns-then-is_missing c =
    found_first is_missing field_data c.args.fields.now c.loop-place.place c.index-fields-place.result c.loop-place-test.true c.index-fields-place.is
    c.loop-place.invariant (sym c.is_missing.ensures ∙ c.if-is_missing.true)

pub loop-place-preserved : goal.loop-place-preserved
loop-place-preserved c =
    none_further is_missing field_data c.args.fields.now c.loop-place.place c.index-fields-place.result c.loop-place-test.true c.index-fields-place.is
    c.loop-place.invariant (sym c.is_missing.ensures ∙ c.if-is_missing.false)

pub returns : goal.returns
returns c = none_at_all is_missing field_data c.args.fields.now c.loop-place.place (omega arith) c.loop-place.invariant
