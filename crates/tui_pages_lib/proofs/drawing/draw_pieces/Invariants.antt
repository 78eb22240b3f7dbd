use Rattle.std.proofs.Common.{◌≡◌, ◌+◌, ◌-◌, drop, map, take}
use Rattle.tui_cells.specs.Buffer.{Screen}
use Rattle.tui_cells.specs.Layers.{KeptOutside, Painted}
use Rattle.tui_cells.specs.Rect.{covers, rows_from}
use Rattle.tui_pages_lib.specs.Pages.{lines_on}
use Rattle.tui_pages_lib.specs.Report.{cells_of}
use Rattle.tui_pages_lib.specs.Strokes.{pieces_layers}
use Rattle.tui_pages_lib.proofs.drawing.draw_pieces.Given as goal

-- the remaining pieces complete the page
abbrev pub invariant-pieces : goal.invariant-pieces
invariant-pieces l = record {
  rest : (final : Screen) → Painted (pieces_layers l.fn.buf.area l.page l.places (map cells_of l.records) l.row (drop l.i l.pieces)) l.buf final
      → Painted (pieces_layers l.fn.buf.area l.page l.places (map cells_of l.records) 2 l.pieces) l.fn.buf final;
  kept : KeptOutside (covers (rows_from l.page 2 (l.page.height - 2))) l.fn.buf l.buf;
  below : l.row ≡ 2 + lines_on (take l.i l.pieces);
}
