use Rattle.std.proofs.Common.{◌≡◌, map, take}
use Rattle.tui_table.specs.Row.{most_cells, row_data}
use Rattle.tui_table.proofs.rows.most_cells.Given as goal

abbrev pub invariant-loop-row : goal.invariant-loop-row
invariant-loop-row l = l.most ≡ most_cells (map row_data (take l.row-index l.rows))
