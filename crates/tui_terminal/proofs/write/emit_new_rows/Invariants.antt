use Rattle.std.proofs.Common.{◌≡◌, ℕ, ◌+◌, List, ◌++◌, drop, flat_map}
use Rattle.tui_io.specs.Prints.{Prints}
use Rattle.tui_terminal_model.specs.Encoding.{encoding}
use Rattle.tui_terminal_laws.specs.Sending.{rows_sent, send_rows}
use Rattle.tui_terminal.proofs.write.emit_new_rows.Given as goal

-- the rows that were sent so far, and those that remain
abbrev pub invariant-rows : goal.invariant-rows
invariant-rows g l =
    let k = g.K.Sink in
    (text : List ℕ)
    × Prints (k.observed l.fn.sink) (k.observed l.sink) l.fn.print l.print text
    × (text ++ flat_map encoding (send_rows l.output (l.area.y + l.row) (rows_sent l.output.widths l.area.x (drop l.row l.old.rows) (drop l.row l.new.rows)))
    ≡ flat_map encoding (send_rows l.output l.area.y (rows_sent l.output.widths l.area.x l.old.rows l.new.rows)))
