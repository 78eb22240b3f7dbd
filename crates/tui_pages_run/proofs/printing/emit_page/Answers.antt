use Rattle.tui_io.proofs.Printing.{Prints-then}
use Rattle.tui_pages_run.specs.Printed.{page_text}
use Rattle.tui_pages_run.proofs.printing.emit_page.Goals as goal

pub returns : goal.returns
unfolding page_text
returns g c =
    let count = rw c.page_count-count.ensures at c.number-2.ensures in
    let rows = rw c.requires.drawn at c.emit_rows.ensures in
    Prints-then c.text.ensures (Prints-then c.number.ensures (Prints-then c.text-2.ensures (Prints-then count (Prints-then c.text-3.ensures rows))))
