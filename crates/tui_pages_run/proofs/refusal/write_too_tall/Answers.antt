use Rattle.tui_io.proofs.Printing.{Prints-then, Prints-writes}
use Rattle.tui_pages_run.proofs.refusal.write_too_tall.Goals as goal

pub returns : goal.returns
returns g c =
    Prints-writes c.new-print.ensures (Prints-then c.text.ensures (Prints-then c.number.ensures c.text-2.ensures)) c.end.ensures.writes_if
