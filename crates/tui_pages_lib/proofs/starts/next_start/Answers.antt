use Rattle.std.proofs.Common.{map, sym}
use Rattle.tui_pages_lib.specs.Report.{cells_of}
use Rattle.tui_pages_lib.proofs.Known.{next_starts, no_width}
use Rattle.tui_pages_lib.proofs.starts.next_start.Goals as goal

pub returns-then-width-eq0 : goal.returns-then-width-eq0
returns-then-width-eq0 c = λ pieces have last.
    no_width c.args.places.now (map cells_of c.args.records.now) pieces c.args.known.now c.args.piece _ _ c.if-width-eq0.true

pub returns : goal.returns
returns c = λ pieces have last.
    next_starts c.args.places.now (map cells_of c.args.records.now) pieces c.args.known.now c.args.piece c.args.before c.in-Some.cell.now
    _ _ _ c.start_after_lines.result c.requires have last (sym c.in-Some.ensures) c.start_after_lines.ensures.begins c.known_start-start.ensures.line c.known_start-start.ensures.place c.start_after_lines.ensures.further
