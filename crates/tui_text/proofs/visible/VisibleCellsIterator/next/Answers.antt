use Rattle.std.proofs.Common.{ap, arith, length}
use Rattle.tui_text.specs.Visible.{visible_left}
use Rattle.tui_text.proofs.ShownCells.{none_visible, visible_next}
use Rattle.tui_text.proofs.visible.VisibleCellsIterator.next.Goals as goal

pub returns-then-column-self-clause-steps : goal.returns-then-column-self-clause-steps
unfolding visible_left
returns-then-column-self-clause-steps c =
    let none = none_visible c.args.self.now.row.now c.args.self.now.column c.args.self.now.column c.if-column-self.true in
    (none, none)

pub returns-clause-steps : goal.returns-clause-steps
unfolding visible_left
returns-clause-steps c =
    let step = rw (c.symbol_columns.ensures, c.symbol.ensures.is) at c.min.ensures in
    visible_next c.args.self.now.row.now c.args.self.now.column c.min.result c.index-self-column.result (omega (arith, c.if-column-self.false)) step

pub returns-clause-goes : goal.returns-clause-goes
unfolding visible_left
returns-clause-goes c =
    let step = rw (c.symbol_columns.ensures, c.symbol.ensures.is) at c.min.ensures in
    let next = visible_next c.args.self.now.row.now c.args.self.now.column c.min.result c.index-self-column.result (omega (arith, c.if-column-self.false)) step in
    record {
      on = λ finite. (tt, tt, omega (arith, ap length next));
      keeps = tt;
      rests = λ finite. tt;
    }
