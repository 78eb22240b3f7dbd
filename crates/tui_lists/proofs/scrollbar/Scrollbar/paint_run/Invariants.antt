use Rattle.std.proofs.Common.{◌+◌, ◌-◌}
use Rattle.std.specs.Option.{option_copied}
use Rattle.tui_cells.specs.Buffer.{Screen}
use Rattle.tui_cells.specs.Layers.{KeptOutside, Painted}
use Rattle.tui_cells.specs.Rect.{covers}
use Rattle.tui_lists.specs.ScrollbarStrokes.{run_layers}
use Rattle.tui_lists.proofs.scrollbar.Scrollbar.paint_run.Given as goal

-- painting the remaining cells completes the whole
abbrev pub invariant-places : goal.invariant-places
invariant-places l = record {
  rest : (final : Screen) → Painted (run_layers l.self.orientation l.clip (option_copied l.symbol) l.style (l.first + l.i) (l.count - l.i)) l.buf final
      → Painted (run_layers l.self.orientation l.clip (option_copied l.symbol) l.style l.first l.count) l.fn.buf final;
  kept : KeptOutside (covers l.clip) l.fn.buf l.buf;
}
