use Rattle.tui_clusters.proofs.Seams.{lone_cluster}
use Rattle.tui_clusters.proofs.RunColumns.{lone_column}
use Rattle.tui_clusters.proofs.width.has_other_column.Goals as goal

pub returns-then-is_plain_char : goal.returns-then-is_plain_char
returns-then-is_plain_char c =
    rw c.cell_width.ensures (lone_column c.args.text.now _ (lone_cluster c.args.text.now (c.is_plain_char.ensures.0 c.if-is_plain_char.true)))
