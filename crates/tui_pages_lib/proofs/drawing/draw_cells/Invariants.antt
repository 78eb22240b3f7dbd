use Rattle.std.proofs.Common.{drop, map}
use Rattle.tui_cells.specs.Buffer.{Screen}
use Rattle.tui_cells.specs.Layers.{KeptOutside, Painted}
use Rattle.tui_cells.specs.Rect.{covers}
use Rattle.tui_pages_lib.specs.Strokes.{cells_layers}
use Rattle.tui_pages_lib.proofs.drawing.draw_cells.Given as goal

-- the remaining cells complete the record
abbrev pub invariant-cells : goal.invariant-cells
invariant-cells l = record {
  rest : (final : Screen) → Painted (cells_layers l.line l.fn.buf.area l.rows (drop l.i l.places) (drop l.i (map (λ cell. cell.now) l.cells))) l.buf final
      → Painted (cells_layers l.line l.fn.buf.area l.rows l.places (map (λ cell. cell.now) l.cells)) l.fn.buf final;
  kept : KeptOutside (covers l.rows) l.fn.buf l.buf;
}
