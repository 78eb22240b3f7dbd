-- Lines: a string, an array of spans, or an object with `spans` and optionally `style` and `alignment`.
use Rattle.std.specs.Prelude.{Option, Some, codes}
use Rattle.serde_json.specs.Data.{Data, string, array}
use Rattle.tui_text.specs.Line.{LineData, empty_line, raw_line}
use Rattle.tui_json.specs.Members.{◌>>=◌, list_of, member, optional_member}
use Rattle.tui_json.specs.Named.{named_of}
use Rattle.tui_schema.specs.Kinds.Names.{alignments}
use Rattle.tui_schema.specs.Kinds.Span.{span_of}
use Rattle.tui_schema.specs.Kinds.Style.{style_member}

-- an object with `spans`
unfoldable pub line_with_spans : Data → Option LineData
line_with_spans d = do
  spans ← member (list_of span_of) (codes "spans") d
  style ← style_member (codes "style") d
  alignment ← optional_member (named_of alignments) (codes "alignment") d
  Some (record { spans = spans; style = style; alignment = alignment })

unfoldable pub line_of : Data → Option LineData
line_of (string s) = Some (raw_line s)
line_of (array ds) = do
  spans ← list_of span_of (array ds)
  Some (record empty_line { spans = spans })
line_of d = line_with_spans d
