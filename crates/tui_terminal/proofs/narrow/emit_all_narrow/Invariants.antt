use Rattle.std.proofs.Common.{◌≡◌, ◌+◌, List, ◌++◌, drop, flat_map}
use Rattle.tui_io.specs.Prints.{Prints}
use Rattle.tui_text.specs.Visible.{PlacedCell}
use Rattle.tui_terminal_model.specs.Encoding.{encoding}
use Rattle.tui_terminal_laws.specs.declared.wanted.Wanted.TheVariants.{KnownWidth}
use Rattle.tui_terminal_laws.specs.Sending.{at_after, nothing_known, send}
use Rattle.tui_terminal_laws.specs.Sent.{sent}
use Rattle.tui_terminal.specs.Sent.{at_reached}
use Rattle.tui_terminal.proofs.AtReached.{IsWithin}
use Rattle.tui_terminal.proofs.NarrowRows.{map_some}
use Rattle.tui_terminal.proofs.narrow.emit_all_narrow.Given as goal

-- the cells that were sent so far, and those that remain
abbrev pub invariant-columns : goal.invariant-columns
invariant-columns g l =
    let k = g.K.Sink in
    let widths = l.target.output.widths in
    (done : List PlacedCell)
    × Prints (k.observed l.fn.sink) (k.observed l.sink) l.fn.print l.print (flat_map encoding (send l.target.output l.target.y nothing_known done))
    × (at_reached l.target.left l.row l.reached.last l.reached.after ≡ at_after widths nothing_known done)
    × (done ++ sent widths KnownWidth (l.target.left + l.column) (map_some (drop l.column l.row)) (map_some (drop l.column l.row))
    ≡ sent widths KnownWidth l.target.left (map_some l.row) (map_some l.row))
    × IsWithin l.row l.column l.reached
