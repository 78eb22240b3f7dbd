use Rattle.std.proofs.Common.{arith, [], ◌++◌, flat_map, append_assoc, rules}
use Rattle.std.proofs.lemmas.List.{append-nil}
use Rattle.tui_print.specs.Print.{run_line}
use Rattle.tui_io.proofs.Printing.{Prints-none, Prints-then}
use Rattle.tui_print.proofs.RunLemmas.{lines_more, lines_end}
use Rattle.tui_print.proofs.runs.emit_runs.Goals as goal

pub rows-init : goal.rows-init
rows-init g c = ([], λ rest lines. lines, Prints-none _ _)

pub rows-preserved : goal.rows-preserved
rows-preserved g c =
    let inv = c.rows.invariant in
    let rows = c.args.buf.now.rows in
    let number = c.rows.number in
    let row = rw c.row_at.ensures at c.emit_row_runs.ensures in
    let text = flat_map (run_line number) row.0 in (
      inv.0 ++ text,
      λ rest lines. rw append_assoc (inv.1 (text ++ rest) (lines_more rows number row.0 rest (search rules) row.1 lines)),
      Prints-then inv.2 row.2,
    )

pub returns : goal.returns
returns g c =
    let inv = c.rows.invariant in
    let rows = c.args.buf.now.rows in
    (inv.0, rw append-nil at (inv.1 [] (lines_end rows c.rows.number (search (rules, arith)))), inv.2)
