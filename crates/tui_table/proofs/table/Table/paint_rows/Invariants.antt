use Rattle.std.proofs.Common.{◌≡◌, ◌≤◌, ◌*◌}
use Rattle.tui_cells.specs.Layers.{KeptOutside, Painted}
use Rattle.tui_cells.specs.Rect.{covers}
use Rattle.tui_layout.specs.Sums.{total}
use Rattle.tui_table.specs.Row.{heights_of}
use Rattle.tui_table.specs.Strokes.{rows_layers}
use Rattle.tui_table.specs.Table.{table_data}
use Rattle.tui_table.proofs.table.Table.paint_rows.Given as goal

-- the rows before this one are painted
abbrev pub invariant-rows : goal.invariant-rows
invariant-rows l = record {
  painted : Painted (rows_layers (table_data l.self) l.body l.grid.gutter l.grid.columns.now l.selected l.first l.i) l.fn.buf l.buf;
  kept : KeptOutside (covers l.body) l.fn.buf l.buf;
  sum : l.used ≡ total (heights_of (table_data l.self).rows) l.first l.i;
  small : l.used ≤ l.i * 196605;
  from : l.first ≤ l.i;
}
