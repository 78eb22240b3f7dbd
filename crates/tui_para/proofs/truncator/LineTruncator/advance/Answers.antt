use Rattle.std.proofs.Common.{map, refl, ◌∙◌}
use Rattle.tui_text.specs.Grapheme.{glyph_of}
use Rattle.tui_para.proofs.IteratorSteps.{AllReady-first, AllReady-step, line_ended}
use Rattle.tui_para.proofs.TruncatedLines.{line_truncated, none_left}
use Rattle.tui_para.proofs.Yielding.{positive}
use Rattle.tui_para.proofs.truncator.LineTruncator.advance.Goals as goal

pub refill-requires : goal.refill-requires
refill-requires g c κs = ((refl, tt), AllReady-first _ _ (c.in-Some.line, c.in-Some.alignment) (c.requires c.if-self-2.false) c.in-Some.ensures.steps)

pub returns-in-Err-clause-ready : goal.returns-in-Err-clause-ready
returns-in-Err-clause-ready g c = λ e. AllReady-step _ _ (c.in-Some.line, c.in-Some.alignment) (c.requires e) c.in-Some.ensures.steps c.in-Some.ensures.goes

pub returns-in-Ok-clause-ready : goal.returns-in-Ok-clause-ready
returns-in-Ok-clause-ready g c = λ e. AllReady-step _ _ (c.in-Some.line, c.in-Some.alignment) (c.requires e) c.in-Some.ensures.steps c.in-Some.ensures.goes

pub returns-in-None-clause-found : goal.returns-in-None-clause-found
returns-in-None-clause-found g c =
    let s = c.args.self.now in
    record {
      columns = tt;
      first = none_left g.O.Iterator.next_gives g.I.Iterator.next_gives s (positive _ _ refl c.if-self-eq0.false) c.next.new.self _
          (line_ended g.O.Iterator.next_gives g.I.Iterator.next_gives s.lines c.next.new.self s.done c.if-self-2.false c.in-None.ensures.steps) refl;
    }

pub returns-in-Ok-clause-found : goal.returns-in-Ok-clause-found
returns-in-Ok-clause-found g c =
    let (all, drains, read) = c.in-Ok.ensures.line in
    record {
      columns = c.in-Ok.ensures.columns;
      first = line_truncated g.O.Iterator.next_gives g.I.Iterator.next_gives c.args.self.now (positive _ _ refl c.if-self-eq0.false) c.next.new.self c.in-Some.line c.in-Some.alignment all (map glyph_of c.refill.new.shown.items)
          c.if-self-2.false c.in-Some.ensures.steps drains (read ∙ c.new-truncation.ensures (map glyph_of all));
    }
