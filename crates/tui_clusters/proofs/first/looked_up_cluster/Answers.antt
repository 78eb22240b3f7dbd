use Rattle.std.proofs.Common.{sym, ◌∙◌}
use Rattle.tui_clusters.proofs.FirstCluster.{no_text, rest_clusters, whole_text, shorter_rest}
use Rattle.tui_clusters.proofs.first.looked_up_cluster.Goals as goal

pub returns-clause-clusters : goal.returns-clause-clusters
returns-clause-clusters c = rest_clusters c.args.text.now c.utf8.text _ _ _ (sym c.graphemes-clusters.ensures.left ∙ c.in_ok-first.ensures.steps) c.as_str.ensures

pub returns-clause-whole : goal.returns-clause-whole
returns-clause-whole c = whole_text c.args.text.now c.utf8.text _ _ _ (sym c.graphemes-clusters.ensures.left ∙ c.in_ok-first.ensures.steps) c.as_str.ensures

pub returns-clause-shorter : goal.returns-clause-shorter
returns-clause-shorter c = shorter_rest c.args.text.now c.utf8.text _ _ _ (sym c.graphemes-clusters.ensures.left ∙ c.in_ok-first.ensures.steps) c.as_str.ensures

pub returns-in_err-first-clause-none : goal.returns-in_err-first-clause-none
returns-in_err-first-clause-none c = λ _.
    let none = sym c.graphemes-clusters.ensures.left ∙ c.in_err-first.ensures.steps.0 in (none, no_text c.args.text.now c.utf8.text none)
