use Rattle.std.proofs.Common.{◌-◌}
use Rattle.tui_cells.specs.Buffer.{Screen}
use Rattle.tui_cells.specs.Layers.{KeptOutside, Painted}
use Rattle.tui_cells.specs.Rect.{covers}
use Rattle.tui_cells.specs.Symbols.{bar_data}
use Rattle.tui_bars.specs.Levels.{levels_layers}
use Rattle.tui_bars.proofs.levels.paint_levels.Given as goal

-- the rows that are left complete the bar
abbrev pub invariant-rows : goal.invariant-rows
invariant-rows l = record {
  rest : (final : Screen) → Painted (levels_layers (bar_data l.set) l.clip l.bar.area l.bar.style l.left (l.bar.area.height - l.up)) l.buf final
      → Painted (levels_layers (bar_data l.set) l.clip l.bar.area l.bar.style l.bar.filled l.bar.area.height) l.fn.buf final;
  kept : KeptOutside (covers l.clip) l.fn.buf l.buf;
}
