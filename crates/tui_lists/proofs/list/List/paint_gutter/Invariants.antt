use Rattle.std.proofs.Common.{◌-◌}
use Rattle.tui_cells.specs.Buffer.{Screen}
use Rattle.tui_cells.specs.Layers.{KeptOutside, Painted}
use Rattle.tui_cells.specs.Rect.{covers}
use Rattle.tui_lists.specs.List.{list_data}
use Rattle.tui_lists.specs.ListStrokes.{gutter_layers}
use Rattle.tui_lists.proofs.list.List.paint_gutter.Given as goal

-- painting the remaining rows completes the whole
abbrev pub invariant-rows : goal.invariant-rows
invariant-rows l = record {
  rest : (final : Screen) → Painted (gutter_layers (list_data l.self) l.is_selected l.gutter l.j (l.gutter.height - l.j)) l.buf final
      → Painted (gutter_layers (list_data l.self) l.is_selected l.gutter 0 l.gutter.height) l.fn.buf final;
  kept : KeptOutside (covers l.gutter) l.fn.buf l.buf;
}
