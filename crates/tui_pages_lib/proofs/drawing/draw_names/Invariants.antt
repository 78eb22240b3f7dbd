use Rattle.std.proofs.Common.{drop, map}
use Rattle.tui_cells.specs.Buffer.{Screen}
use Rattle.tui_cells.specs.Layers.{KeptOutside, Painted}
use Rattle.tui_cells.specs.Rect.{covers}
use Rattle.tui_pages_lib.specs.Report.{column_data}
use Rattle.tui_pages_lib.specs.Strokes.{names_layers}
use Rattle.tui_pages_lib.proofs.drawing.draw_names.Given as goal

-- the remaining names complete the row
abbrev pub invariant-names : goal.invariant-names
invariant-names l = record {
  rest : (final : Screen) → Painted (names_layers l.fn.buf.area l.row (drop l.i l.places) (drop l.i (map column_data l.columns))) l.buf final
      → Painted (names_layers l.fn.buf.area l.row l.places (map column_data l.columns)) l.fn.buf final;
  kept : KeptOutside (covers l.row) l.fn.buf l.buf;
}
