use Rattle.std.proofs.Common.{◌≡◌, ◌++◌, length, map, take, drop}
use Rattle.tui_text.specs.Grapheme.{glyph_of}
use Rattle.tui_para.specs.Hyphenation.{after_all}
use Rattle.tui_para.proofs.MarkedSplits.{marks_of}
use Rattle.tui_para.proofs.wrapping.marked.mark_splits.Given as goal

abbrev pub invariant-loop-i : goal.invariant-loop-i
invariant-loop-i l = record {
  marks : take l.i l.marks.items ++ marks_of l.last (drop l.i l.graphemes) ≡ take l.start l.fn.marks.items ++ marks_of l.fn.before (drop l.start l.graphemes);
  after : after_all l.last (map glyph_of (drop l.i l.graphemes)) ≡ after_all l.fn.before (map glyph_of (drop l.start l.graphemes));
  left : drop l.i l.marks.items ≡ drop l.i l.fn.marks.items;
  long : length l.marks.items ≡ length l.graphemes;
}
