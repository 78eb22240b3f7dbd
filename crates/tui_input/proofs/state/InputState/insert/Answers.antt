use Rattle.std.proofs.lemmas.Str.{IsUtf8-encode}
use Rattle.tui_input.proofs.Splitting.{before_inserted, between_sides}
use Rattle.tui_input.proofs.state.InputState.insert.Goals as goal

pub cut-requires-clause-start : goal.cut-requires-clause-start
cut-requires-clause-start c =
    before_inserted c.args.self.now c.insert_char.new.self c.args.c _ _ c.in_ok-insert_char.ensures.ok c.sides.ensures.before c.sides-2.ensures.after (IsUtf8-encode c.args.c c.ranges.c.0)
    c.sides-2.ensures.utf8

pub cut-requires-clause-end : goal.cut-requires-clause-end
cut-requires-clause-end c = between_sides _ _ _ _ c.sides-2.ensures.before c.sides-2.ensures.after c.sides-2.ensures.utf8
