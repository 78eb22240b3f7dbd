-- The strokes of a month, inside its block.
use Rattle.std.specs.Prelude.{ℕ, zero, suc, ◌+◌, ◌*◌, min, List, [], ◌∷◌, ◌++◌, Option, None, Some, codes}
use Rattle.tui_cells.specs.declared.position.Position.{Position}
use Rattle.tui_cells.specs.declared.rect.Rect.{Rect}
use Rattle.tui_cells.specs.declared.style.Style.{Style}
use Rattle.tui_cells.specs.Layers.{Layer}
use Rattle.tui_frames.specs.Space.{past}
use Rattle.tui_text.specs.Line.{spans_line}
use Rattle.tui_text.specs.Painting.{below, row_layers}
use Rattle.tui_text.specs.Setting.{corner, set_layers, styled_text}
use Rattle.tui_text.specs.Span.{raw_span}
use Rattle.tui_text.specs.declared.alignment.Alignment.TheVariants.{Center}
use Rattle.tui_calendar.specs.Month.{DateData, place_of, weeks_of}
use Rattle.tui_calendar.specs.Monthly.{MonthlyData, SlotData, gap_style, heading_text, slot_of, weekdays_text}

-- the position in this column and row
abbrev pub place_at : ℕ → ℕ → Position
place_at x y = record { x = x; y = y }

-- a space, and then two characters
abbrev pub slot_layers : Rect → ℕ → ℕ → Style → SlotData → List Layer
slot_layers inner x y gap slot =
    set_layers inner (place_at x y) (styled_text (codes " ") gap) 1
    ++ set_layers inner (place_at (past x 1) y) (styled_text slot.text slot.style) 2

-- the slot of a place
unfoldable pub place_layers : (DateData → Style) → MonthlyData → Rect → ℕ → ℕ → ℕ → ℕ → List Layer
place_layers style_of m inner x y row column =
    slot_layers inner (past x (3 * column)) y (gap_style m column) (slot_of style_of m (place_of m.date (7 * row + column)))

-- n places of a week, from a column on
unfoldable pub week_layers : (DateData → Style) → MonthlyData → Rect → ℕ → ℕ → ℕ → ℕ → ℕ → List Layer
week_layers style_of m inner x y row column zero = []
week_layers style_of m inner x y row column (suc n) =
    place_layers style_of m inner x y row column ++ week_layers style_of m inner x y row (column + 1) n

-- n weeks, from a row on
unfoldable pub weeks_layers : (DateData → Style) → MonthlyData → Rect → ℕ → ℕ → ℕ → ℕ → List Layer
weeks_layers style_of m inner x y row zero = []
weeks_layers style_of m inner x y row (suc n) =
    week_layers style_of m inner x (past y row) row 0 7 ++ weeks_layers style_of m inner x y (row + 1) n

-- the weeks for which there is a row
unfoldable pub sheet_layers : (DateData → Style) → MonthlyData → Rect → Rect → List Layer
sheet_layers style_of m inner rest = weeks_layers style_of m inner rest.x rest.y 0 (min (weeks_of m.date) rest.height)

-- the month and the year, centred in the first row, if that header is shown
unfoldable pub month_layers : MonthlyData → Rect → Option Style → List Layer
month_layers m inner None = []
month_layers m inner (Some style) = row_layers inner Center (spans_line (raw_span (heading_text m.date) ∷ []) style)

-- the names of the weekdays, in the next row, if they are shown
unfoldable pub weekdays_layers : Rect → Rect → Option Style → List Layer
weekdays_layers inner rest None = []
weekdays_layers inner rest (Some style) = set_layers inner (corner rest) (styled_text weekdays_text style) rest.width

-- what is left of an area below a header, which may be hidden
abbrev pub below_header : Option Style → Rect → Rect
below_header None area = area
below_header (Some _) area = below area

-- the headers that are shown, and the weeks
abbrev pub monthly_layers : (DateData → Style) → MonthlyData → Rect → List Layer
monthly_layers style_of m inner =
    let rest = below_header m.month_header inner in
    month_layers m inner m.month_header
    ++ (weekdays_layers inner rest m.weekdays_header
    ++ sheet_layers style_of m inner (below_header m.weekdays_header rest))
