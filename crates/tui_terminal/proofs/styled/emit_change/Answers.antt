use Rattle.std.proofs.Common.{[], refl, sym, inl, inr, ◌∙◌}
use Rattle.std.proofs.lemmas.Bool.{true≢false}
use Rattle.tui_io.proofs.Printing.{Prints-none}
use Rattle.tui_terminal.proofs.styled.emit_change.Goals as goal

pub returns-then-is_same_pen : goal.returns-then-is_same_pen
returns-then-is_same_pen g c = ([], inl (c.is_same_pen.ensures.0 c.if-is_same_pen.true, refl), Prints-none _ _)

pub returns : goal.returns
returns g c = (_, inr (λ same. true≢false (sym (c.is_same_pen.ensures.1 same) ∙ c.if-is_same_pen.false), refl), c.emit_pen.ensures)
