-- A month as a drawing.
use Rattle.tui_cells.specs.declared.style.Style.{Style}
use Rattle.tui_cells.specs.Drawing.{Drawing}
use Rattle.tui_frames.specs.InBlock.{IsAllocationFreeIfBlock}
use Rattle.tui_frames.specs.Drawing.{in_block_drawing}
use Rattle.tui_calendar.specs.Month.{DateData}
use Rattle.tui_calendar.specs.Monthly.{MonthlyData}
use Rattle.tui_calendar.specs.MonthlyStays.{monthly_stays}
use Rattle.tui_calendar.specs.MonthlyStrokes.{monthly_layers}

-- a month, drawn with these styles of dates; only its block may allocate
abbrev pub monthly_drawing : (DateData → Style) → MonthlyData → Drawing
monthly_drawing style_of m = in_block_drawing m.block (monthly_layers style_of m) (IsAllocationFreeIfBlock m.block) (monthly_stays style_of m)
