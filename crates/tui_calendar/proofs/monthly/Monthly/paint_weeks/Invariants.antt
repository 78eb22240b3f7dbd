use Rattle.std.proofs.Common.{◌-◌}
use Rattle.tui_cells.specs.Buffer.{Screen}
use Rattle.tui_cells.specs.Layers.{KeptOutside, Painted}
use Rattle.tui_cells.specs.Rect.{covers}
use Rattle.tui_calendar.specs.Monthly.{monthly_data}
use Rattle.tui_calendar.specs.MonthlyStrokes.{weeks_layers}
use Rattle.tui_calendar.proofs.monthly.Monthly.paint_weeks.Given as goal

-- the weeks that are left complete the sheet
abbrev pub invariant-loop-row : goal.invariant-loop-row
invariant-loop-row g l = record {
  rest : (final : Screen) → Painted (weeks_layers (g.DS.DateStyler.date_style l.self.events) (monthly_data l.self) l.inner l.rest.x l.rest.y l.row (l.count - l.row)) l.buf final
      → Painted (weeks_layers (g.DS.DateStyler.date_style l.self.events) (monthly_data l.self) l.inner l.rest.x l.rest.y 0 l.count) l.fn.buf final;
  kept : KeptOutside (covers l.inner) l.fn.buf l.buf;
}
