-- The strokes of a text that is set from a position on.
use Rattle.std.specs.Prelude.{ℕ, ◌+◌, ◌-◌, Bool, min, nat_le, nat_lt, List, [], ◌∷◌, ◌++◌, map, All, if◌then◌else◌}
use Rattle.tui_cells.specs.declared.position.Position.{Position}
use Rattle.tui_cells.specs.declared.rect.Rect.{Rect}
use Rattle.tui_cells.specs.declared.style.Style.{Style}
use Rattle.tui_cells.specs.Cell.{IsAllocationFree}
use Rattle.tui_cells.specs.Layers.{Layer}
use Rattle.tui_cells.specs.Rect.{covers, right_of}
use Rattle.tui_cells.specs.Style.{patched}
use Rattle.tui_clusters.specs.Width.{width_of}
use Rattle.tui_clusters.specs.Shown.{clusters}
use Rattle.tui_text.specs.Graphemes.{glyph_in}
use Rattle.tui_text.specs.Line.{LineData}
use Rattle.tui_text.specs.Painting.{cells_at, glyph_at}
use Rattle.tui_text.specs.Span.{SpanData}

-- where an area begins
abbrev pub corner : Rect → Position
corner area = record { x = area.x; y = area.y }

-- a grapheme in its columns, if it has any
abbrev pub set_cluster : ℕ → ℕ → Style → List ℕ → List Layer
set_cluster x y style text = if nat_lt 0 (width_of text) then glyph_at x y (glyph_in style text) else []

-- graphemes side by side in a room of columns, until the first that does not fit in what is left
unfoldable pub set_clusters : ℕ → ℕ → ℕ → Style → List (List ℕ) → List Layer
set_clusters x y room style [] = []
set_clusters x y room style (c ∷ cs) =
    if nat_le (width_of c) room then set_cluster x y style c ++ set_clusters (x + width_of c) y (room - width_of c) style cs else []

-- the column after the last one used
unfoldable pub set_end : ℕ → ℕ → List (List ℕ) → ℕ
set_end x room [] = x
set_end x room (c ∷ cs) = if nat_le (width_of c) room then set_end (x + width_of c) (room - width_of c) cs else x

-- spans one after another, each in the columns that are left
unfoldable pub spans_layers : ℕ → ℕ → ℕ → List SpanData → List Layer
spans_layers x y room [] = []
spans_layers x y room (s ∷ ss) =
    let next = set_end x room (clusters s.content) in
    set_clusters x y room s.style (clusters s.content) ++ spans_layers next y (room - (next - x)) ss

-- the column after the last one that spans use
unfoldable pub spans_end : ℕ → ℕ → List SpanData → ℕ
spans_end x room [] = x
spans_end x room (s ∷ ss) = let next = set_end x room (clusters s.content) in spans_end next (room - (next - x)) ss

-- the smaller of a room and the columns up to the clip's right edge
abbrev pub room_in : Rect → ℕ → ℕ → ℕ
room_in clip x room = min room (right_of clip - x)

-- spans set from a position of the clip on
abbrev pub set_layers : Rect → Position → List SpanData → ℕ → List Layer
set_layers clip at spans room = if covers clip at.x at.y then spans_layers at.x at.y (room_in clip at.x room) spans else []

-- the column after the last one used, or the position's own if it lies outside the clip
abbrev pub set_column : Rect → Position → List SpanData → ℕ → ℕ
set_column clip at spans room = if covers clip at.x at.y then spans_end at.x (room_in clip at.x room) spans else at.x

-- the cells that spans set from a position of a clip on may change: those of its row from there up to the column after
-- the last one used
abbrev pub set_part : Rect → Position → List SpanData → ℕ → ℕ → ℕ → Bool
set_part clip at spans room = covers (cells_at at.x at.y (set_column clip at spans room - at.x))

-- a text of one style
abbrev pub styled_text : List ℕ → Style → List SpanData
styled_text text style = record { content = text; style = style } ∷ []

-- a span of a line, whose style patches the line's
abbrev pub in_line : Style → SpanData → SpanData
in_line style span = record { content = span.content; style = patched style span.style }

-- the spans of a line, whose styles patch the line's
abbrev pub line_spans : LineData → List SpanData
line_spans line = map (in_line line.style) line.spans

-- spans whose graphemes are stored in their cells, so that drawing them does not allocate
abbrev pub AreAllocationFree : List SpanData → Type 0
AreAllocationFree spans = All (λ s. All IsAllocationFree (clusters s.content)) spans
