use Rattle.std.proofs.Common.{[], ◌∷◌, ◌++◌, map, refl, Some, None}
use Rattle.tui_text.specs.Grapheme.{glyph_of}
use Rattle.tui_para.specs.Lines.{glyph_line}
use Rattle.tui_para.proofs.IteratorSteps.{AllReady-first, AllReady-step, all_may}
use Rattle.tui_para.proofs.ends.read_lines.Goals as goal

pub read_line-requires : goal.read_line-requires
read_line-requires g c κs = ((refl, tt), AllReady-first _ _ (c.in-Some.line, c.in-Some._alignment) c.lines.invariant.ready c.in-Some.ensures.steps)

pub lines-preserved : goal.lines-preserved
lines-preserved g c =
    let (all, drains) = c.read_line.ensures in
    let line = glyph_line c.in-Some._alignment (map glyph_of all ++ []) in
    record {
      ready = AllReady-step _ _ (c.in-Some.line, c.in-Some._alignment) c.lines.invariant.ready c.in-Some.ensures.steps c.in-Some.ensures.goes;
      whole = λ rest may. c.lines.invariant.whole (line ∷ rest) ((c.in-Some.line, c.in-Some._alignment), c.next.new.self, c.in-Some.ensures.steps, (all_may g.I.Iterator.next_gives (Some c.in-Some.line) None all drains refl, refl), may);
    }

pub returns : goal.returns
returns g c = c.lines.invariant.whole [] (c.next.new.self, c.in-None.ensures.steps)
