use Rattle.std.proofs.Common.{map, rules}
use Rattle.tui_cells.proofs.Painting.{KeptOutside-then}
use Rattle.tui_text.specs.Line.{spans_line}
use Rattle.tui_text.specs.Span.{span_data}
use Rattle.tui_text.proofs.RowStays.{style_kept, line_kept, part_kept}
use Rattle.tui_text.proofs.painting.paint_spans.Goals as goal

pub returns-clause-kept : goal.returns-clause-kept
returns-clause-kept c =
    line_kept c.args.row _ _ (KeptOutside-then (style_kept c.args.row _ _ _ (search rules) c.set_style.ensures) c.paint_glyphs.ensures.kept)

pub returns-clause-part : goal.returns-clause-part
returns-clause-part c =
    part_kept c.args.row (spans_line (map span_data c.args.spans.now) c.args.style) _ _ (search rules)
    (KeptOutside-then (style_kept c.args.row _ _ _ (search rules) c.set_style.ensures) c.paint_glyphs.ensures.kept)
