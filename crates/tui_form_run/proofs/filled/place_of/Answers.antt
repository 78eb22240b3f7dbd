use Rattle.tui_form_run.proofs.Choosing.{found, not_found}
use Rattle.tui_form_run.proofs.filled.place_of.Goals as goal

pub returns-then-eq : goal.returns-then-eq
returns-then-eq c =
    found c.args.text.now c.as_str.result.now c.args.options.now c.texts.i c.index-options-i.result c.eq.result _ c.texts-test.true c.index-options-i.is c.texts.invariant
    c.as_str.ensures.value c.eq.ensures c.if-eq.true

pub texts-preserved : goal.texts-preserved
texts-preserved c =
    not_found c.args.text.now c.as_str.result.now c.args.options.now c.texts.i c.index-options-i.result c.eq.result _ c.texts-test.true c.index-options-i.is c.texts.invariant
    c.as_str.ensures.value c.eq.ensures c.if-eq.false
