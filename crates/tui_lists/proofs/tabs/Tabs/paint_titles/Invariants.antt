use Rattle.std.proofs.Common.{drop, map}
use Rattle.tui_cells.specs.Buffer.{Screen}
use Rattle.tui_cells.specs.Layers.{KeptOutside, Painted}
use Rattle.tui_cells.specs.Rect.{covers}
use Rattle.tui_lists.specs.Tabs.{tabs_data}
use Rattle.tui_lists.specs.TabsStrokes.{titles_layers}
use Rattle.tui_text.specs.Line.{line_data}
use Rattle.tui_lists.proofs.tabs.Tabs.paint_titles.Given as goal

-- painting the remaining titles completes the whole
abbrev pub invariant-titles : goal.invariant-titles
invariant-titles l = record {
  rest : (final : Screen) → Painted (titles_layers (tabs_data l.self) l.inner l.i l.x (map line_data (drop l.i l.self.titles.items))) l.buf final
      → Painted (titles_layers (tabs_data l.self) l.inner 0 l.inner.x (tabs_data l.self).titles) l.fn.buf final;
  kept : KeptOutside (covers l.inner) l.fn.buf l.buf;
}
