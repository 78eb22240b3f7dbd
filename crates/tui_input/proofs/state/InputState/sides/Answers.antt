use Rattle.std.proofs.Common.{ap, subst, sym, ◌∙◌, take}
use Rattle.std.specs.Str.{IsCharBoundary, IsUtf8}
use Rattle.std.proofs.lemmas.Str.{IsUtf8-take}
use Rattle.tui_input.proofs.Splitting.{whole_of_sides}
use Rattle.tui_input.proofs.state.InputState.sides.Goals as goal

pub returns-clause-whole : goal.returns-clause-whole
returns-clause-whole c =
    let at = c.self.inside.at in
    let text = c.as_str.ensures.value in
    let place = subst (λ bytes. IsCharBoundary bytes at) (sym text) c.self.invariant.place in
    whole_of_sides c.args.self.now c.split_at.result.0.now
    (c.split_at.ensures.front ∙ (ap (take at) text ∙ ap (λ s. s.before) c.self.view_is))
    (subst IsUtf8 (sym c.split_at.ensures.front) (IsUtf8-take c.as_str.result.now at c.as_str.utf8 place))
