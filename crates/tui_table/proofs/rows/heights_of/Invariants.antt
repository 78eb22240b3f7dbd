use Rattle.std.proofs.Common.{◌≡◌, map, take}
use Rattle.tui_table.specs.Row.{heights_of, row_data}
use Rattle.tui_table.proofs.rows.heights_of.Given as goal

abbrev pub invariant-loop-row : goal.invariant-loop-row
invariant-loop-row l = l.heights ≡ heights_of (map row_data (take l.row-index l.rows.items))
