-- Spans: a string, or an object with `text` and optionally `style`.
use Rattle.std.specs.Prelude.{Option, Some, codes}
use Rattle.serde_json.specs.Data.{Data, string}
use Rattle.serde_json.specs.Find.{as_str}
use Rattle.tui_text.specs.Span.{SpanData, raw_span}
use Rattle.tui_json.specs.Members.{◌>>=◌, member}
use Rattle.tui_schema.specs.Kinds.Style.{style_member}

-- an object with `text`
unfoldable pub span_with_text : Data → Option SpanData
span_with_text d = do
  content ← member as_str (codes "text") d
  style ← style_member (codes "style") d
  Some (record { content = content; style = style })

unfoldable pub span_of : Data → Option SpanData
span_of (string s) = Some (raw_span s)
span_of d = span_with_text d
