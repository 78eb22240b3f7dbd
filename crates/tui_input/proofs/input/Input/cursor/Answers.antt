use Rattle.std.proofs.Common.{ℕ, ap, drop, ◌∙◌}
use Rattle.tui_input.specs.Input.{input_data}
use Rattle.tui_input.specs.Scroll.{shown}
use Rattle.tui_input.proofs.InputMoved.{cursor_is, left_pieces}
use Rattle.tui_input.proofs.input.Input.cursor.Goals as goal

pub returns : goal.returns
returns c =
    let i = input_data c.args.self.now in
    let s = c.args.state.now in
    let left = left_pieces i.mask _ _ s c.first.result c.graphemes_from.ensures c.sides.ensures.before ∙ ap (λ (k : ℕ). drop k (shown i.mask s.before)) c.first.ensures in
    c.position_in.ensures ∙ cursor_is i c.args.area _ s _ _ c.inner_if_some.ensures left c.columns-column.ensures
