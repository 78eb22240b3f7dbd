use Rattle.std.proofs.Common.{◌≡◌, [], ap, sym, subst, ◌∙◌, arith}
use Rattle.std.specs.Prelude.{length}
use Rattle.tui_text.specs.Grapheme.{glyph_of, glyph_width}
use Rattle.tui_text.specs.Graphemes.{glyphs_left, line_graphemes}
use Rattle.tui_text.specs.Line.{line_data}
use Rattle.tui_para.specs.Counting.{Fits, saturated_count, no_lines, steps}
use Rattle.tui_para.specs.Hyphenation.{marked_from}
use Rattle.tui_para.specs.Hyphens.{glyph_rule, with_splits, wrap}
use Rattle.tui_para.specs.Wrapped.{not_wider}
use Rattle.tui_para.proofs.SaturatedCounts.{begun_counts, saturated_counts, one_read}
use Rattle.tui_para.proofs.WithSplits.{counted_lines}
use Rattle.tui_para.proofs.counting.line_count.Goals as goal

pub loop-grapheme-init : goal.loop-grapheme-init
loop-grapheme-init c =
    record {
      numbers = begun_counts c.args.width c.args.wrap c.new-counter.result c.new-hyphenation.result (glyphs_left c.into_iter-grapheme-iterator.result) (line_graphemes c.args.base (line_data c.args.line.now))
          c.new-counter.ensures c.new-hyphenation.ensures (ap glyphs_left c.into_iter-grapheme-iterator.ensures.into_iter_gives ∙ c.styled_graphemes-grapheme-items.ensures);
      fits = subst (Fits c.args.width) (sym c.new-counter.ensures) (omega arith, omega arith);
    }

pub loop-grapheme-preserved-then-mark-width : goal.loop-grapheme-preserved-then-mark-width
loop-grapheme-preserved-then-mark-width c =
    let mark = c.mark-after.ensures in
    record {
      numbers = one_read c.args.width c.args.wrap c.loop-grapheme.hyphenation c.mark-after.result.1 c.mark-after.result.0 (glyph_of c.in-Some.grapheme) (glyphs_left c.next.new.self) (glyphs_left c.loop-grapheme.grapheme-iterator)
          c.in-Some.ensures.steps mark.mark c.loop-grapheme.counter c.read.new.self mark.after c.if-mark-width.true c.read.ensures.step ∙ c.loop-grapheme.invariant.numbers;
      fits = c.read.ensures.fits;
    }

pub returns : goal.returns
returns c =
    let w = c.args.width in
    let way = c.args.wrap in
    let rule = glyph_rule w way in
    let xs = line_graphemes c.args.base (line_data c.args.line.now) in
    let none : glyphs_left c.loop-grapheme.grapheme-iterator ≡ [] = c.in-None.ensures.steps.0 in
    let same = ap (λ zs. saturated_count (steps rule c.loop-grapheme.counter (marked_from c.loop-grapheme.hyphenation (not_wider glyph_width w zs)))) (sym none) ∙ c.loop-grapheme.invariant.numbers in
    let e = saturated_counts c.loop-grapheme.counter (steps rule no_lines (with_splits way.hyphens [] (not_wider glyph_width w xs))) c.count.result (length (wrap w way xs)) same c.count.ensures (counted_lines w way xs) in
    c.max.ensures ∙ e
