-- Slots, weeks and headers, one after another.
use Rattle.std.proofs.Common.{◌≡◌, ℕ, suc, ◌+◌, ◌-◌, ◌<◌, ◌≤◌, min, List, Option, Some, codes, arith, Result, OnOk}
use Rattle.tui_cells.specs.declared.rect.Rect.{Rect}
use Rattle.tui_cells.specs.declared.style.Style.{Style}
use Rattle.tui_cells.specs.Buffer.{Screen}
use Rattle.tui_cells.specs.Layers.{Painted}
use Rattle.tui_cells.proofs.Painting.{Painted-none, Painted-then}
use Rattle.tui_frames.specs.Space.{past}
use Rattle.tui_text.specs.Setting.{corner, set_layers, styled_text}
use Rattle.tui_text.proofs.Elements.{on_ok}
use Rattle.tui_calendar.specs.Month.{DateData, weeks_of}
use Rattle.tui_calendar.specs.Monthly.{MonthlyData, weekdays_text}
use Rattle.tui_calendar.specs.MonthlyStrokes.{
  month_layers,
  monthly_layers,
  place_at,
  place_layers,
  sheet_layers,
  slot_layers,
  below_header,
  week_layers,
  weekdays_layers,
  weeks_layers,
}

-- a space, and then two characters
pub slot_painted : {T E : Type 0} (result : Result T E) (inner : Rect) (x y right : ℕ) (gap style : Style) (text shown : List ℕ) (a b c : Screen) →
    right ≡ past x 1 → shown ≡ text → Painted (set_layers inner (place_at x y) (styled_text (codes " ") gap) 1) a b →
    OnOk result (Painted (set_layers inner (place_at right y) (styled_text shown style) 2) b c) →
    OnOk result (Painted (slot_layers inner x y gap (record { text = text; style = style })) a c)
slot_painted result inner x y right gap style text shown a b c r t p q = on_ok result (λ k. Painted-then p (rw (r, t) at k)) q

-- one more place of a week
pub week_more : (style_of : DateData → Style) (m : MonthlyData) (inner : Rect) (x y row column : ℕ) (a b c : Screen) → column < 7 →
    Painted (place_layers style_of m inner x y row column) a b → Painted (week_layers style_of m inner x y row (column + 1) (7 - (column + 1))) b c →
    Painted (week_layers style_of m inner x y row column (7 - column)) a c
unfolding week_layers
week_more style_of m inner x y row column a b c lt p q =
    let e : 7 - column ≡ suc (7 - (column + 1)) = omega arith in rw e (Painted-then p q)

pub week_done : (style_of : DateData → Style) (m : MonthlyData) (inner : Rect) (x y row column : ℕ) (a : Screen) → 7 ≤ column →
    Painted (week_layers style_of m inner x y row column (7 - column)) a a
unfolding week_layers
week_done style_of m inner x y row column a le = let e : 7 - column ≡ 0 = omega arith in rw e (Painted-none a)

-- one more week
pub weeks_more : (style_of : DateData → Style) (m : MonthlyData) (inner : Rect) (x y row n top : ℕ) (a b c : Screen) → row < n → top ≡ past y row →
    Painted (week_layers style_of m inner x top row 0 7) a b → Painted (weeks_layers style_of m inner x y (row + 1) (n - (row + 1))) b c →
    Painted (weeks_layers style_of m inner x y row (n - row)) a c
unfolding weeks_layers
weeks_more style_of m inner x y row n top a b c lt at p q =
    let e : n - row ≡ suc (n - (row + 1)) = omega arith in rw (e, ← at) (Painted-then p q)

pub weeks_done : (style_of : DateData → Style) (m : MonthlyData) (inner : Rect) (x y row n : ℕ) (a : Screen) → n ≤ row →
    Painted (weeks_layers style_of m inner x y row (n - row)) a a
unfolding weeks_layers
weeks_done style_of m inner x y row n a le = let e : n - row ≡ 0 = omega arith in rw e (Painted-none a)

pub sheet_painted : (style_of : DateData → Style) (m : MonthlyData) (inner rest : Rect) (n : ℕ) (a b : Screen) → n ≡ min (weeks_of m.date) rest.height →
    Painted (weeks_layers style_of m inner rest.x rest.y 0 n) a b → Painted (sheet_layers style_of m inner rest) a b
unfolding sheet_layers
sheet_painted style_of m inner rest n a b e p = rw (← e) p

pub weekdays_painted : {T E : Type 0} (result : Result T E) (inner rest : Rect) (header : Option Style) (style : Style) (room : ℕ) (a b : Screen) →
    header ≡ Some style → room ≡ rest.width → OnOk result (Painted (set_layers inner (corner rest) (styled_text weekdays_text style) room) a b) →
    OnOk result (Painted (weekdays_layers inner rest header) a b)
unfolding weekdays_layers
weekdays_painted result inner rest header style room a b e r p = rw e (rw r at p)

-- the headers and the weeks
pub content_painted : {T E : Type 0} (result : Result T E) (style_of : DateData → Style) (m : MonthlyData) (inner rest weeks : Rect) (a b c d : Screen) →
    rest ≡ below_header m.month_header inner → weeks ≡ below_header m.weekdays_header rest →
    Painted (month_layers m inner m.month_header) a b → Painted (weekdays_layers inner rest m.weekdays_header) b c →
    OnOk result (Painted (sheet_layers style_of m inner weeks) c d) → OnOk result (Painted (monthly_layers style_of m inner) a d)
content_painted result style_of m inner rest weeks a b c d e f p q r =
    on_ok result (λ k. Painted-then p (Painted-then (rw e at q) (rw (f, e) at k))) r
