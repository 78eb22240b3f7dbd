use Rattle.std.proofs.Common.{◌-◌, ◌≤◌, drop}
use Rattle.tui_cells.specs.Buffer.{Screen}
use Rattle.tui_cells.specs.Layers.{KeptOutside, Painted}
use Rattle.tui_cells.specs.Rect.{covers}
use Rattle.tui_lists.specs.List.{list_data}
use Rattle.tui_lists.specs.ListStrokes.{items_layers}
use Rattle.tui_lists.proofs.list.List.paint_items.Given as goal

-- painting the remaining items completes the whole
abbrev pub invariant-items : goal.invariant-items
invariant-items l = record {
  rest : (final : Screen) → Painted (items_layers (list_data l.self) l.inner l.selected l.i l.used (l.end - l.i) (drop l.i (list_data l.self).items)) l.buf final
      → Painted (items_layers (list_data l.self) l.inner l.selected l.first 0 (l.end - l.first) (drop l.first (list_data l.self).items)) l.fn.buf final;
  kept : KeptOutside (covers l.inner) l.fn.buf l.buf;
  room : l.used ≤ l.inner.height;
}
