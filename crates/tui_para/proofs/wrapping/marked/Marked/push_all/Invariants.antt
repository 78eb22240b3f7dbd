use Rattle.std.proofs.Common.{◌+◌, ◌≤◌, List}
use Rattle.std.specs.Iterator.{Yields, size}
use Rattle.tui_text.specs.declared.grapheme.StyledGrapheme.{StyledGrapheme}
use Rattle.tui_para.specs.Given.{Ready}
use Rattle.tui_para.specs.Marked.{HasPushed}
use Rattle.tui_para.proofs.wrapping.marked.Marked.push_all.Given as goal

abbrev pub invariant-graphemes : goal.invariant-graphemes
invariant-graphemes g l =
    let s = g.I.Iterator in
    record {
      taken : (taken : List StyledGrapheme) × Yields s.next_gives l.fn.source taken l.source × HasPushed l.width taken l.fn.self l.self;
      ready : Ready s l.source;
      nearer : size (s.remaining l.source) + l._read ≤ size (s.remaining l.fn.source);
    }
