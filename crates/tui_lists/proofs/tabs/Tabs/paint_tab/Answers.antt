use Rattle.tui_cells.proofs.Painting.{KeptOutside-then, KeptOutside-weaker}
use Rattle.tui_cells.proofs.Regions.{outside_both}
use Rattle.tui_text.specs.Line.{line_data}
use Rattle.tui_lists.specs.Tabs.{tabs_data}
use Rattle.tui_lists.proofs.TabsPainted.{tab_ends, tab_painted}
use Rattle.tui_lists.proofs.tabs.Tabs.paint_tab.Goals as goal

pub returns-clause-ok : goal.returns-clause-ok
returns-clause-ok c =
    tab_painted _ (tabs_data c.args.self.now) c.args.inner c.args.x c.args.is_selected (line_data c.args.title.now) _ _ _ _ _ _ _ _
    c.in_ok-start.ensures.end c.in_ok-end.ensures.end c.used_columns.ensures c.in_ok-start.ensures.ok c.in_ok-end.ensures.ok c.highlight_if.ensures.ok
    c.set_line_in-3.ensures.ok

pub returns-clause-end : goal.returns-clause-end
returns-clause-end c =
    tab_ends _ (tabs_data c.args.self.now) c.args.inner c.args.x (line_data c.args.title.now) _ _ c.in_ok-start.ensures.end c.in_ok-end.ensures.end
    c.set_line_in-3.ensures.end

pub returns-clause-kept : goal.returns-clause-kept
returns-clause-kept c =
    KeptOutside-then c.in_ok-start.ensures.kept
    (KeptOutside-then c.in_ok-end.ensures.kept
    (KeptOutside-then (KeptOutside-weaker (λ x y out. outside_both c.args.inner _ x y out) (rw c.used_columns.ensures at c.highlight_if.ensures.kept))
    c.set_line_in-3.ensures.kept))

pub returns-in_err-end-clause-kept : goal.returns-in_err-end-clause-kept
returns-in_err-end-clause-kept c = KeptOutside-then c.in_ok-start.ensures.kept c.in_err-end.ensures.kept
