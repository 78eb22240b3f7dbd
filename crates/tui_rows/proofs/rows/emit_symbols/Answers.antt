use Rattle.std.proofs.Common.{arith, [], ◌++◌, ℕ, List, ◌∙◌, refl, sym, ap, append_assoc}
use Rattle.std.proofs.lemmas.List.{append-nil}
use Rattle.tui_io.proofs.Printing.{Prints-none, Prints-then}
use Rattle.tui_rows.proofs.RowLemmas.{row_end}
use Rattle.tui_rows.proofs.rows.emit_symbols.Goals as goal

pub loop-column-init : goal.loop-column-init
loop-column-init g c = (omega arith, ([], Prints-none _ _, refl))

pub loop-column-preserved : goal.loop-column-preserved
loop-column-preserved g c =
    let inv = c.loop-column.invariant in
    let next = c.emit_next-column.ensures.emitted in (
      c.emit_next-column.ensures.within.1,
      (_, Prints-then inv.1.1 next.2, append_assoc inv.1.0 next.0 _ ∙ (ap (λ (l : List ℕ). inv.1.0 ++ l) (sym next.1) ∙ inv.1.2)),
    )

pub returns : goal.returns
returns g c =
    let inv = c.loop-column.invariant.1 in
    let all = rw (row_end c.args.row.now c.loop-column.column c.loop-column-test.false, append-nil) at inv.2 in
    rw all at inv.1
