use Rattle.std.proofs.Common.{◌≡◌, ◌+◌, List, ◌++◌, drop, flat_map}
use Rattle.tui_io.specs.Prints.{Prints}
use Rattle.tui_text.specs.Visible.{PlacedCell}
use Rattle.tui_terminal_model.specs.Pieces.{shown_row}
use Rattle.tui_terminal_model.specs.Encoding.{encoding}
use Rattle.tui_terminal_laws.specs.Sending.{at_after, send}
use Rattle.tui_terminal_laws.specs.Sent.{row_shown, sent}
use Rattle.tui_terminal.specs.Seeing.{cover_of}
use Rattle.tui_terminal.specs.Sent.{pass_of}
use Rattle.tui_terminal.proofs.rows.emit_pass.Given as goal

-- the cells that were sent so far, and those that remain
abbrev pub invariant-columns : goal.invariant-columns
invariant-columns g l =
    let k = g.K.Sink in
    let widths = l.target.output.widths in
    let rest = shown_row widths (cover_of l.under) (drop l.column l.row) in
    (done : List PlacedCell)
    × Prints (k.observed l.fn.sink) (k.observed l.sink) l.fn.print l.print (flat_map encoding (send l.target.output l.target.y l.pass.at done))
    × (l.now ≡ at_after widths l.pass.at done)
    × (done ++ sent widths (pass_of l.pass.uncertain) (l.target.left + l.column) rest rest ≡ sent widths (pass_of l.pass.uncertain) l.target.left (row_shown widths l.row) (row_shown widths l.row))
