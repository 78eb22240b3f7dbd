use Rattle.std.proofs.Common.{List, drop}
use Rattle.tui_para.specs.Lines.{GlyphLine}
use Rattle.tui_para.proofs.painting.rows.skip_lines.Given as goal

abbrev pub invariant-lines : goal.invariant-lines
invariant-lines g l = record {
  ready : g.C.LineComposer.can_yield l.composer;
  skipped : (lines : List GlyphLine) → g.C.LineComposer.must_yield l.fn.composer lines → g.C.LineComposer.must_yield l.composer (drop l._line lines);
}
