use Rattle.std.proofs.Common.{drop, map, take}
use Rattle.tui_cells.specs.Buffer.{Screen}
use Rattle.tui_cells.specs.Layers.{KeptOutside, Painted}
use Rattle.tui_cells.specs.Rect.{covers}
use Rattle.tui_bars.specs.Sparkline.{bars_layers, sparkline_bar_data, sparkline_data, sparkline_layers}
use Rattle.tui_bars.proofs.sparkline.Sparkline.paint_content.Given as goal

-- the bars that are left complete the sparkline
abbrev pub invariant-bars : goal.invariant-bars
invariant-bars l = record {
  rest : (final : Screen) → Painted (bars_layers (sparkline_data l.self) l.fn.area l.plan.greatest l.i (drop l.i (take l.fn.area.width (map sparkline_bar_data l.self.bars.items)))) l.buf final
      → Painted (sparkline_layers (sparkline_data l.self) l.fn.area) l.fn.buf final;
  kept : KeptOutside (covers l.fn.area) l.fn.buf l.buf;
}
