use Rattle.tui_text.specs.Line.{line_data, raw_line}
use Rattle.tui_show_run.proofs.ItemLists.{same_more}
use Rattle.tui_show_run.proofs.demo.items.repeated.Goals as goal

pub lines-preserved : goal.lines-preserved
lines-preserved c =
    same_more line_data _ _ c.in_ok-raw.field-0 (raw_line c.args.text.now) c.lines.i c.lines.invariant c.in_ok-push.ensures.items c.in_ok-raw.ensures
