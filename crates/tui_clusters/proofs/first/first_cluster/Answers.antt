use Rattle.std.proofs.Common.{◌∷◌, ap₂, sym, true, ◌∙◌}
use Rattle.unicode_segmentation.specs.Grapheme.{graphemes}
use Rattle.tui_clusters.proofs.first.first_cluster.Goals as goal

pub returns-then-is_printable_first-clause-clusters : goal.returns-then-is_printable_first-clause-clusters
returns-then-is_printable_first-clause-clusters c =
    let first = c.is_printable_first.ensures.first c.if-is_printable_first.true in
    first.clusters ∙ ap₂ (λ front back. front ∷ graphemes true back) (sym c.split_at.ensures.front) (sym c.split_at.ensures.back)
