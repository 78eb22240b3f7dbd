use Rattle.std.proofs.Common.{◌++◌, ℕ, List, ap, sym, flat_map}
use Rattle.std.proofs.lemmas.List.{append-nil}
use Rattle.tui_rows.specs.RowLine.{row_line}
use Rattle.tui_print.specs.Print.{state_lines}
use Rattle.tui_io.proofs.Printing.{Prints-then}
use Rattle.tui_pager_run.proofs.printing.add_screen.Goals as goal

pub returns : goal.returns
unfolding state_lines
returns g c =
    let lines = c.emit_runs.ensures in
    let rows = flat_map row_line c.args.screen.now.rows in (
      rows ++ lines.0,
      record { runs = lines.0; are_runs = lines.1; parts = ap (λ (t : List ℕ). rows ++ t) (sym (append-nil lines.0)) },
      Prints-then c.emit_rows.ensures lines.2,
    )
