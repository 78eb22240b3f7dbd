use Rattle.std.proofs.Common.{◌≡◌, ◌+◌, ◌-◌, ◌≤◌, drop, map}
use Rattle.tui_cells.specs.Rect.{covers}
use Rattle.tui_cells.specs.Buffer.{Screen}
use Rattle.tui_cells.specs.Layers.{KeptOutside, Painted}
use Rattle.tui_text.specs.Painting.{cells_at}
use Rattle.tui_text.specs.Span.{span_data}
use Rattle.tui_text.specs.Setting.{in_line, spans_end, spans_layers}
use Rattle.tui_text.proofs.setting.set_spans.Given as goal

-- what is left to set completes the whole
abbrev pub invariant-loop-span : goal.invariant-loop-span
invariant-loop-span l = record {
  columns : l.x + l.left ≡ l.at.x + l.room;
  left : l.left ≤ l.room;
  end : spans_end l.x l.left (map (in_line l.style) (map span_data (drop l.span-index l.spans)))
      ≡ spans_end l.at.x l.room (map (in_line l.style) (map span_data l.spans));
  rest : (final : Screen) → Painted (spans_layers l.x l.at.y l.left (map (in_line l.style) (map span_data (drop l.span-index l.spans)))) l.buf final
      → Painted (spans_layers l.at.x l.at.y l.room (map (in_line l.style) (map span_data l.spans))) l.fn.buf final;
  kept : KeptOutside (covers (cells_at l.at.x l.at.y (spans_end l.at.x l.room (map (in_line l.style) (map span_data l.spans)) - l.at.x))) l.fn.buf l.buf;
}
