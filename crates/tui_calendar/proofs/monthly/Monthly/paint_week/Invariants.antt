use Rattle.std.proofs.Common.{◌-◌}
use Rattle.tui_cells.specs.Buffer.{Screen}
use Rattle.tui_cells.specs.Layers.{KeptOutside, Painted}
use Rattle.tui_cells.specs.Rect.{covers}
use Rattle.tui_calendar.specs.Monthly.{monthly_data}
use Rattle.tui_calendar.specs.MonthlyStrokes.{week_layers}
use Rattle.tui_calendar.proofs.monthly.Monthly.paint_week.Given as goal

-- the places that are left complete the week
abbrev pub invariant-loop-column : goal.invariant-loop-column
invariant-loop-column g l = record {
  rest : (final : Screen) → Painted (week_layers (g.DS.DateStyler.date_style l.self.events) (monthly_data l.self) l.inner l.corner.x l.corner.y l.row l.column (7 - l.column)) l.buf final
      → Painted (week_layers (g.DS.DateStyler.date_style l.self.events) (monthly_data l.self) l.inner l.corner.x l.corner.y l.row 0 7) l.fn.buf final;
  kept : KeptOutside (covers l.inner) l.fn.buf l.buf;
}
