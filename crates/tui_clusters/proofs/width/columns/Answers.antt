use Rattle.std.proofs.Common.{sym}
use Rattle.tui_clusters.proofs.OneByte.{printable_width}
use Rattle.tui_clusters.proofs.width.columns.Goals as goal

pub returns-in-Some : goal.returns-in-Some
returns-in-Some c = let one = c.in-Some.ensures.some in sym (printable_width c.args.cjk c.args.text.now c.in-Some._byte one.0 one.1 one.2)
