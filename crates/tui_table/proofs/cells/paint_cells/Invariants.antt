use Rattle.std.proofs.Common.{◌≤◌, drop, length, map}
use Rattle.tui_cells.specs.Buffer.{Screen}
use Rattle.tui_cells.specs.Layers.{KeptOutside, Painted}
use Rattle.tui_cells.specs.Rect.{covers}
use Rattle.tui_table.specs.Cell.{cell_data}
use Rattle.tui_table.specs.Strokes.{cells_layers}
use Rattle.tui_table.proofs.cells.paint_cells.Given as goal

-- painting the remaining cells completes the whole
abbrev pub invariant-cells : goal.invariant-cells
invariant-cells l = record {
  rest : (final : Screen) → Painted (cells_layers l.area l.grid.gutter l.spacing l.kind (drop l.used l.grid.columns.now) (drop l.i (map cell_data l.cells))) l.buf final
      → Painted (cells_layers l.area l.grid.gutter l.spacing l.kind l.grid.columns.now (map cell_data l.cells)) l.fn.buf final;
  kept : KeptOutside (covers l.area) l.fn.buf l.buf;
  within : l.used ≤ length l.grid.columns.now;
}
