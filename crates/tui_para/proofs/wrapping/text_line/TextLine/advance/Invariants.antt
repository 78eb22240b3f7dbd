use Rattle.std.specs.Prelude.{IfSome}
use Rattle.tui_para.specs.Given.{Ready, source_left}
use Rattle.tui_para.specs.Wrapping.{HasRead}
use Rattle.tui_para.proofs.wrapping.text_line.TextLine.advance.Given as goal

abbrev pub invariant-lines : goal.invariant-lines
invariant-lines g l = record {
  ready : IfSome l.self.source (Ready g.I.Iterator);
  read : HasRead g.I.Iterator.next_gives l.fn.self l.self;
}

abbrev pub decreases-lines : goal.decreases-lines
decreases-lines g l = source_left g.I.Iterator.remaining l.self.source
