use Rattle.std.proofs.Common.{drop, flat_map, map}
use Rattle.tui_cells.specs.Layers.{KeptOutside}
use Rattle.tui_cells.specs.Style.{no_style}
use Rattle.tui_text.specs.Graphemes.{span_graphemes}
use Rattle.tui_text.specs.Painting.{row_part}
use Rattle.tui_text.specs.Row.{ShownUpTo}
use Rattle.tui_text.specs.Span.{span_data}
use Rattle.tui_text.proofs.row.paint_glyphs.Given as goal

-- what is left to paint completes the whole
abbrev pub invariant-loop-span : goal.invariant-loop-span
invariant-loop-span l = record {
  shown : ShownUpTo l.row l.skip l.start (flat_map (span_graphemes no_style) (map span_data l.spans)) l.place
      (flat_map (span_graphemes no_style) (map span_data (drop l.span-index l.spans))) l.fn.buf l.buf;
  kept : KeptOutside (row_part l.row) l.fn.buf l.buf;
}
