-- A law that the drawing of a month carries: its strokes stay inside its block.
use Rattle.std.specs.Prelude.{ℕ, zero, suc, ◌+◌, min, Option, None, Some, [], ◌∷◌}
use Rattle.tui_cells.specs.declared.rect.Rect.{Rect}
use Rattle.tui_cells.specs.declared.style.Style.{Style}
use Rattle.tui_cells.specs.Layers.{StayIn}
use Rattle.tui_cells.specs.Rect.{covers}
use Rattle.tui_cells.specs.Stays.{StayIn-append, StayIn-none}
use Rattle.tui_frames.specs.Space.{past}
use Rattle.tui_text.specs.Line.{spans_line}
use Rattle.tui_text.specs.Span.{raw_span}
use Rattle.tui_text.specs.declared.alignment.Alignment.TheVariants.{Center}
use Rattle.tui_text.proofs.RowStays.{row_stays}
use Rattle.tui_text.proofs.SetStays.{set_stays}
use Rattle.tui_calendar.specs.Month.{DateData, weeks_of}
use Rattle.tui_calendar.specs.Monthly.{MonthlyData, heading_text}
use Rattle.tui_calendar.specs.MonthlyStrokes.{month_layers, monthly_layers, place_layers, sheet_layers, below_header, week_layers, weekdays_layers, weeks_layers}

place_stays : (style_of : DateData → Style) (m : MonthlyData) (inner : Rect) (x y row column : ℕ) →
    StayIn (covers inner) (place_layers style_of m inner x y row column)
unfolding place_layers
place_stays style_of m inner x y row column = StayIn-append (set_stays inner _ _ _) (set_stays inner _ _ _)

week_stays : (style_of : DateData → Style) (m : MonthlyData) (inner : Rect) (x y row column n : ℕ) →
    StayIn (covers inner) (week_layers style_of m inner x y row column n)
unfolding week_layers
week_stays style_of m inner x y row column zero = StayIn-none
week_stays style_of m inner x y row column (suc n) =
    StayIn-append (place_stays style_of m inner x y row column) (week_stays style_of m inner x y row (column + 1) n)

weeks_stay : (style_of : DateData → Style) (m : MonthlyData) (inner : Rect) (x y row n : ℕ) →
    StayIn (covers inner) (weeks_layers style_of m inner x y row n)
unfolding weeks_layers
weeks_stay style_of m inner x y row zero = StayIn-none
weeks_stay style_of m inner x y row (suc n) =
    StayIn-append (week_stays style_of m inner x (past y row) row 0 7) (weeks_stay style_of m inner x y (row + 1) n)

sheet_stays : (style_of : DateData → Style) (m : MonthlyData) (inner rest : Rect) → StayIn (covers inner) (sheet_layers style_of m inner rest)
unfolding sheet_layers
sheet_stays style_of m inner rest = weeks_stay style_of m inner rest.x rest.y 0 (min (weeks_of m.date) rest.height)

month_stays : (m : MonthlyData) (inner : Rect) (header : Option Style) → StayIn (covers inner) (month_layers m inner header)
unfolding month_layers
month_stays m inner None = StayIn-none
month_stays m inner (Some style) = row_stays inner Center (spans_line (raw_span (heading_text m.date) ∷ []) style)

weekdays_stay : (inner rest : Rect) (header : Option Style) → StayIn (covers inner) (weekdays_layers inner rest header)
unfolding weekdays_layers
weekdays_stay inner rest None = StayIn-none
weekdays_stay inner rest (Some style) = set_stays inner _ _ _

-- a month changes only cells inside its block
pub monthly_stays : (style_of : DateData → Style) (m : MonthlyData) (inner : Rect) → StayIn (covers inner) (monthly_layers style_of m inner)
monthly_stays style_of m inner =
    StayIn-append (month_stays m inner m.month_header)
    (StayIn-append (weekdays_stay inner (below_header m.month_header inner) m.weekdays_header)
    (sheet_stays style_of m inner (below_header m.weekdays_header (below_header m.month_header inner))))
