use Rattle.std.proofs.Common.{sym}
use Rattle.tui_clusters.proofs.OneByte.{printable_shown}
use Rattle.tui_clusters.proofs.blank.has_control.Goals as goal

pub returns-in-Some : goal.returns-in-Some
returns-in-Some c = let one = c.in-Some.ensures.some in sym (printable_shown c.args.text.now c.in-Some._byte one.0 one.1 one.2)
