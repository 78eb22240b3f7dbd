use Rattle.std.proofs.Common.{sym}
use Rattle.std.specs.Prelude.{false}
use Rattle.tui_clusters.specs.Width.{width_of}
use Rattle.tui_clusters.proofs.OneByte.{printable_width}
use Rattle.tui_clusters.proofs.width.cell_width.Goals as goal

pub returns-in-Some : goal.returns-in-Some
unfolding width_of
returns-in-Some c = let one = c.in-Some.ensures.some in sym (printable_width false c.args.text.now c.in-Some._byte one.0 one.1 one.2)
