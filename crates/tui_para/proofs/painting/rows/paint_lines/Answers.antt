use Rattle.std.proofs.Common.{List, arith, sym, subst}
use Rattle.tui_cells.proofs.Painting.{KeptOutside-then, Painted-then, Painted-none}
use Rattle.tui_cells.specs.Layers.{Layer, Painted}
use Rattle.tui_para.specs.Lines.{GlyphLine}
use Rattle.tui_para.specs.Strokes.{glyph_lines_layers}
use Rattle.tui_para.proofs.Painted.{glyph_lines_past}
use Rattle.tui_para.proofs.painting.rows.paint_lines.Goals as goal

pub rows-preserved : goal.rows-preserved
rows-preserved g c =
    let k = rw (c.in_ok-next_line.was, c.in-Some.is) at c.next_line.follows.holds-at-none in
    record {
      ready = k.0;
      rest = λ lines h.
          let (left, must_yield, whole) = c.rows.invariant.rest lines h in
          let (more, first, later) = k.1.2.takes left must_yield in
          (more, later, λ final q. whole final (subst (λ (ss : List GlyphLine). Painted (glyph_lines_layers c.args.rect c.rows.y ss) c.rows.buf final) (sym first) (Painted-then c.in_ok-paint_line-in-Some.ensures.ok q)));
      kept = KeptOutside-then c.rows.invariant.kept c.in_ok-paint_line-in-Some.ensures.kept;
    }

pub returns-in-None-clause-ok : goal.returns-in-None-clause-ok
returns-in-None-clause-ok g c = λ lines h.
    let k = rw (c.in_ok-next_line.was, c.in-None.is) at c.next_line.follows.holds-at-none in
    let (left, must_yield, whole) = c.rows.invariant.rest lines h in
    whole c.rows.buf (subst (λ (ss : List GlyphLine). Painted (glyph_lines_layers c.args.rect c.rows.y ss) c.rows.buf c.rows.buf) (sym (k.1.2.takes left must_yield).0) (Painted-none c.rows.buf))

pub returns-clause-ok : goal.returns-clause-ok
returns-clause-ok g c = λ lines h.
    let t = c.top-y.ensures in
    let b = c.bottom-y-end.ensures in
    let far = c.rows-test.false in
    let (left, must_yield, whole) = c.rows.invariant.rest lines h in
    whole c.rows.buf (subst (λ (ls : List Layer). Painted ls c.rows.buf c.rows.buf) (sym (glyph_lines_past c.args.rect c.rows.y left (omega arith))) (Painted-none c.rows.buf))
