-- Text: a string, which is split into lines; an array of lines; or an object with `lines` and optionally `style` and
-- `alignment`.
use Rattle.std.specs.Prelude.{Option, Some, codes}
use Rattle.serde_json.specs.Data.{Data, string, array}
use Rattle.tui_text.specs.Text.{TextData, empty_text, raw_text}
use Rattle.tui_json.specs.Members.{◌>>=◌, list_of, member, optional_member}
use Rattle.tui_json.specs.Named.{named_of}
use Rattle.tui_schema.specs.Kinds.Names.{alignments}
use Rattle.tui_schema.specs.Kinds.Line.{line_of}
use Rattle.tui_schema.specs.Kinds.Style.{style_member}

-- an object with `lines`
unfoldable pub text_with_lines : Data → Option TextData
text_with_lines d = do
  lines ← member (list_of line_of) (codes "lines") d
  style ← style_member (codes "style") d
  alignment ← optional_member (named_of alignments) (codes "alignment") d
  Some (record { lines = lines; style = style; alignment = alignment })

unfoldable pub text_of : Data → Option TextData
text_of (string s) = Some (raw_text s)
text_of (array ds) = do
  lines ← list_of line_of (array ds)
  Some (record empty_text { lines = lines })
text_of d = text_with_lines d
