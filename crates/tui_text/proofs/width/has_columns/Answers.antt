use Rattle.std.proofs.Common.{false, sym, ◌∙◌}
use Rattle.tui_text.specs.Span.{span_data}
use Rattle.tui_text.specs.Width.{span_width}
use Rattle.tui_text.proofs.Elements.{some_in}
use Rattle.tui_text.proofs.width.has_columns.Goals as goal

pub returns-then-has_column : goal.returns-then-has_column
returns-then-has_column c =
    sym (some_in (span_width false) span_data c.args.spans.now c.loop-span.span-index _ c.loop-span-test.true (sym c.has_column.ensures ∙ c.if-has_column.true))
