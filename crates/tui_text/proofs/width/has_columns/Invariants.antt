use Rattle.std.proofs.Common.{◌≡◌, false, map, sum_by, take}
use Rattle.tui_text.specs.Span.{span_data}
use Rattle.tui_text.specs.Width.{span_width}
use Rattle.tui_text.proofs.width.has_columns.Given as goal

-- the spans so far have no column
abbrev pub invariant-loop-span : goal.invariant-loop-span
invariant-loop-span l = sum_by (span_width false) (map span_data (take l.span-index l.spans)) ≡ 0
