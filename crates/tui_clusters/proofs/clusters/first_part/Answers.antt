use Rattle.std.proofs.Common.{sym, ap₂, ◌∙◌, ◌++◌, true}
use Rattle.unicode_segmentation.specs.Grapheme.{graphemes}
use Rattle.tui_clusters.proofs.Seams.{graphemes-part}
use Rattle.tui_clusters.proofs.clusters.first_part.Goals as goal

pub returns-clause-clusters : goal.returns-clause-clusters
returns-clause-clusters c =
    let part = c.part_len.ensures in
    graphemes-part c.args.text.now c.part_len.result c.utf8.text part.within part.seam
    ∙ ap₂ (λ a b. graphemes true a ++ graphemes true b) (sym c.split_at.ensures.front) (sym c.split_at.ensures.back)
