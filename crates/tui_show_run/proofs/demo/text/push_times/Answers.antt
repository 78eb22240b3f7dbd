use Rattle.tui_show_run.proofs.Joined.{again}
use Rattle.tui_show_run.proofs.demo.text.push_times.Goals as goal

pub times-preserved : goal.times-preserved
times-preserved c = again _ _ _ _ c.times.i c.times.invariant c.in_ok-push_str.ensures.bytes
