use Rattle.tui_io.proofs.Printing.{Prints-then, Prints-writes}
use Rattle.tui_panes_run.specs.Found.{leaf_line}
use Rattle.tui_panes_run.proofs.finding.write_leaf_number.Goals as goal

pub returns : goal.returns
unfolding leaf_line
returns g c =
    Prints-writes c.new-print.ensures (Prints-then c.text.ensures (Prints-then c.number.ensures c.text-2.ensures)) c.end.ensures.writes_if
