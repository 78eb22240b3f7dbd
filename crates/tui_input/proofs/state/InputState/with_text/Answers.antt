use Rattle.std.proofs.Common.{ap, sym, ◌∙◌}
use Rattle.std.proofs.lemmas.Iterator.{YieldsList-from_chars}
use Rattle.std.proofs.lemmas.Iterator.Consumers.{YieldsList-end}
use Rattle.std.proofs.lemmas.List.{map-id}
use Rattle.tui_input.specs.State.{TypedText, empty_input, typed, typed_all}
use Rattle.tui_input.proofs.Typing.{typed_more}
use Rattle.tui_input.proofs.state.InputState.with_text.Goals as goal

pub loop-c-init : goal.loop-c-init
unfolding typed_all
loop-c-init c = c.new-state.ensures

pub loop-c-preserved : goal.loop-c-preserved
loop-c-preserved c =
    c.in_ok-insert.ensures.ok ∙ ap (λ (s : TypedText). typed s c.in-Some.c) c.loop-c.invariant ∙ sym (typed_more (empty_input c.args.most) c.loop-c.yielded c.in-Some.c)

pub returns : goal.returns
returns c =
    let end = YieldsList-end (YieldsList-from_chars c.args.text.now c.utf8.text cc) c.loop-c.yielded _ c.loop-c.yielded_by _ _ c.in-None.is c.next.ensures.steps in
    c.loop-c.invariant ∙ ap (typed_all (empty_input c.args.most)) (sym (map-id c.loop-c.yielded) ∙ end.0)
