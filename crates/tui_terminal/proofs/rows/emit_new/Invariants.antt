use Rattle.std.proofs.Common.{◌≡◌, ◌+◌, List, ◌++◌, drop, flat_map}
use Rattle.tui_io.specs.Prints.{Prints}
use Rattle.tui_text.specs.Visible.{PlacedCell}
use Rattle.tui_terminal_model.specs.Pieces.{shown_row}
use Rattle.tui_terminal_model.specs.Encoding.{encoding}
use Rattle.tui_terminal_laws.specs.declared.wanted.Wanted.TheVariants.{Changed}
use Rattle.tui_terminal_laws.specs.Sending.{at_after, nothing_known, send}
use Rattle.tui_terminal_laws.specs.Sent.{row_shown, sent}
use Rattle.tui_terminal.specs.Seeing.{cover_of}
use Rattle.tui_terminal.proofs.rows.emit_new.Given as goal

-- the cells that were sent so far, and those that remain
abbrev pub invariant-columns : goal.invariant-columns
invariant-columns g l =
    let k = g.K.Sink in
    let widths = l.target.output.widths in
    (done : List PlacedCell)
    × Prints (k.observed l.fn.sink) (k.observed l.sink) l.fn.print l.print (flat_map encoding (send l.target.output l.target.y nothing_known done))
    × (l.now ≡ at_after widths nothing_known done)
    × (done ++ sent widths Changed (l.target.left + l.column) (shown_row widths (cover_of l.was) (drop l.column l.old)) (shown_row widths (cover_of l.is) (drop l.column l.new))
    ≡ sent widths Changed l.target.left (row_shown widths l.old) (row_shown widths l.new))
