use Rattle.std.proofs.Common.{◌∙◌, ap, arith, map}
use Rattle.tui_cells.proofs.Painting.{KeptOutside-then}
use Rattle.tui_text.specs.Line.{line_data}
use Rattle.tui_text.specs.Setting.{AreAllocationFree}
use Rattle.tui_text.proofs.Elements.{none_from, seen_at, seen_from}
use Rattle.tui_lists.specs.Tabs.{tabs_data}
use Rattle.tui_lists.proofs.TabsPainted.{titles_done, titles_more, titles_past}
use Rattle.tui_lists.proofs.Selected.{compared}
use Rattle.tui_lists.proofs.tabs.Tabs.paint_titles.Goals as goal

pub returns-then-x-right-clause-ok : goal.returns-then-x-right-clause-ok
returns-then-x-right-clause-ok c =
    c.titles.invariant.rest _ (titles_past (tabs_data c.args.self.now) c.args.inner c.titles.i c.titles.x _ _ (omega (arith, c.right.ensures)))

pub returns-in_err-x-clause-allocation_free : goal.returns-in_err-x-clause-allocation_free
returns-in_err-x-clause-allocation_free c allocation_free =
    let titles = c.args.self.now.titles.items in
    let broken = c.in_err-x.ensures.allocation_free allocation_free (seen_at line_data (λ l. AreAllocationFree l.spans) titles c.titles.i c.index.result.now c.index.result.now (omega arith) (search) allocation_free.titles) in
    cc

pub titles-preserved : goal.titles-preserved
titles-preserved c =
    let titles = c.args.self.now.titles.items in
    record {
      rest = λ final q. c.titles.invariant.rest final
          (titles_more (tabs_data c.args.self.now) c.args.inner c.titles.i c.titles.x _ _ _ _ _ _ _ _ _ final
          (seen_from line_data titles c.titles.i c.index.result.now c.index.result.now (omega arith) (search))
          c.in_ok-start.ensures.end (c.eq-is_selected.ensures ∙ compared c.args.self.now.selected c.titles.i) c.in_ok-x.ensures.end c.in_ok-start.ensures.ok c.in_ok-x.ensures.ok q);
      kept = KeptOutside-then c.titles.invariant.kept (KeptOutside-then c.in_ok-start.ensures.kept c.in_ok-x.ensures.kept);
    }

pub returns-clause-ok : goal.returns-clause-ok
returns-clause-ok c =
    c.titles.invariant.rest _
    (titles_done (tabs_data c.args.self.now) c.args.inner c.titles.i c.titles.x _ _ (ap (map line_data) (none_from c.args.self.now.titles.items c.titles.i (omega arith))))
