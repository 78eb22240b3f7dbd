use Rattle.std.proofs.Common.{List}
use Rattle.tui_para.specs.Given.{AllReady, MayBe, MayGive}
use Rattle.tui_para.specs.Lines.{GlyphLine}
use Rattle.tui_para.proofs.ends.read_lines.Given as goal

abbrev pub invariant-lines : goal.invariant-lines
invariant-lines g l =
    let o = g.O.Iterator in
    let i = g.I.Iterator in
    let gives = MayGive o.next_gives (MayBe i.next_gives) in
    record {
      ready : AllReady o i l.line-iterator;
      whole : (rest : List GlyphLine) → gives l.line-iterator rest → (glyph_lines : List GlyphLine) × gives l.fn.lines glyph_lines;
    }
