use Rattle.std.proofs.Common.{◌≡◌, ◌+◌, ◌++◌, List, map}
use Rattle.std.specs.Iterator.{Yields, size}
use Rattle.std.specs.Prelude.{sum_by}
use Rattle.tui_text.specs.Grapheme.{Glyph, glyph_of, glyph_width}
use Rattle.tui_text.specs.declared.grapheme.StyledGrapheme.{StyledGrapheme}
use Rattle.tui_para.specs.Truncation.{shown_of}
use Rattle.tui_para.specs.Given.{Ready}
use Rattle.tui_para.proofs.truncating.refilling.refill.Given as goal

abbrev pub invariant-graphemes : goal.invariant-graphemes
invariant-graphemes g l = record {
  read : (taken : List StyledGrapheme) × Yields g.I.Iterator.next_gives l.fn.line taken l.rest
      × ((rest : List Glyph) → shown_of l.start (map glyph_of taken ++ rest) ≡ map glyph_of l.shown.items ++ shown_of l.truncation rest);
  columns : l.truncation.room + sum_by glyph_width (map glyph_of l.shown.items) ≡ l.start.room;
  ready : Ready g.I.Iterator l.rest;
}

abbrev pub decreases-graphemes : goal.decreases-graphemes
decreases-graphemes g l = size (g.I.Iterator.remaining l.rest)
