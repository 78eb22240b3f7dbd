use Rattle.std.proofs.Common.{List, drop}
use Rattle.tui_cells.specs.Buffer.{Screen}
use Rattle.tui_cells.specs.Rect.{covers}
use Rattle.tui_cells.specs.Layers.{Painted, KeptOutside}
use Rattle.tui_para.specs.Lines.{GlyphLine}
use Rattle.tui_para.specs.Strokes.{glyph_lines_layers}
use Rattle.tui_para.proofs.painting.rows.paint_lines.Given as goal

-- painting the remaining lines completes the whole
abbrev pub invariant-rows : goal.invariant-rows
invariant-rows g l = record {
  ready : g.C.LineComposer.can_yield l.composer;
  rest : (lines : List GlyphLine) → g.C.LineComposer.must_yield l.fn.composer lines → (left : List GlyphLine) × g.C.LineComposer.must_yield l.composer left
      × ((final : Screen) → Painted (glyph_lines_layers l.rect l.y left) l.buf final → Painted (glyph_lines_layers l.rect l.rect.y (drop l.skipped lines)) l.fn.buf final);
  kept : KeptOutside (covers l.rect) l.fn.buf l.buf;
}
