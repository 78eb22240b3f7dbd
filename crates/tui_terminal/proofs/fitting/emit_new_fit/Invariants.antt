use Rattle.std.proofs.Common.{◌≡◌, ◌+◌, List, ◌++◌, drop, flat_map}
use Rattle.std.specs.Prelude.{None}
use Rattle.tui_io.specs.Prints.{Prints}
use Rattle.tui_text.specs.Visible.{PlacedCell}
use Rattle.tui_terminal_model.specs.Pieces.{shown_row}
use Rattle.tui_terminal_model.specs.Encoding.{encoding}
use Rattle.tui_terminal_laws.specs.declared.wanted.Wanted.TheVariants.{Changed}
use Rattle.tui_terminal_laws.specs.Sending.{at_after, nothing_known, send}
use Rattle.tui_terminal_laws.specs.Sent.{row_shown, sent}
use Rattle.tui_terminal_laws.proofs.Seen.{under}
use Rattle.tui_terminal.specs.Sent.{at_reached}
use Rattle.tui_terminal.proofs.AtReached.{IsWithin}
use Rattle.tui_terminal.proofs.fitting.emit_new_fit.Given as goal

-- the cells that were sent so far, and those that remain
abbrev pub invariant-columns : goal.invariant-columns
invariant-columns g l =
    let k = g.K.Sink in
    let widths = l.target.output.widths in
    (done : List PlacedCell)
    × Prints (k.observed l.fn.sink) (k.observed l.sink) l.fn.print l.print (flat_map encoding (send l.target.output l.target.y nothing_known done))
    × (at_reached l.target.left l.new l.reached.last l.reached.after ≡ at_after widths nothing_known done)
    × (done ++ sent widths Changed (l.target.left + l.column) (shown_row widths (under l.was None) (drop l.column l.old)) (shown_row widths (under l.is None) (drop l.column l.new))
    ≡ sent widths Changed l.target.left (row_shown widths l.old) (row_shown widths l.new))
    × IsWithin l.new l.column l.reached
