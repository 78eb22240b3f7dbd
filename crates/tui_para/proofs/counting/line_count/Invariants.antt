use Rattle.std.proofs.Common.{◌≡◌, []}
use Rattle.tui_para.specs.Counting.{Fits, saturated_count, no_lines, steps}
use Rattle.tui_para.specs.Hyphenation.{marked_from}
use Rattle.tui_para.specs.Hyphens.{glyph_rule, with_splits}
use Rattle.tui_para.specs.Wrapped.{not_wider}
use Rattle.tui_text.specs.Grapheme.{glyph_width}
use Rattle.tui_text.specs.Graphemes.{glyphs_left, line_graphemes}
use Rattle.tui_text.specs.Line.{line_data}
use Rattle.tui_para.proofs.counting.line_count.Given as goal

abbrev pub invariant-loop-grapheme : goal.invariant-loop-grapheme
invariant-loop-grapheme l =
    let rule = glyph_rule l.width l.wrap in
    record {
      numbers : saturated_count (steps rule l.counter (marked_from l.hyphenation (not_wider glyph_width l.width (glyphs_left l.grapheme-iterator))))
          ≡ saturated_count (steps rule no_lines (with_splits l.wrap.hyphens [] (not_wider glyph_width l.width (line_graphemes l.fn.base (line_data l.line)))));
      fits : Fits l.width l.counter;
    }
