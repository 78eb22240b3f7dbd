-- Titles: an object with `line` and optionally `position`, or else a line.
use Rattle.std.specs.Prelude.{Option, None, Some, codes}
use Rattle.serde_json.specs.Data.{Data}
use Rattle.serde_json.specs.Find.{get}
use Rattle.tui_frames.specs.Block.{TitleData}
use Rattle.tui_schema.specs.Kinds.Line.{line_of}
use Rattle.tui_json.specs.Members.{◌>>=◌, optional_member}
use Rattle.tui_json.specs.Named.{named_of}
use Rattle.tui_schema.specs.Kinds.Names.{title_positions}

abbrev title_by : Option Data → Data → Option TitleData
title_by None d = do
  line ← line_of d
  Some (record { line = line; position = None })
title_by (Some content) d = do
  line ← line_of content
  position ← optional_member (named_of title_positions) (codes "position") d
  Some (record { line = line; position = position })

unfoldable pub title_of : Data → Option TitleData
title_of d = title_by (get (codes "line") d) d
