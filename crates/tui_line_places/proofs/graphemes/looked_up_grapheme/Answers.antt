use Rattle.std.proofs.Common.{sym}
use Rattle.tui_line_places.proofs.ShownClusters.{next_shown, over, still_hidden}
use Rattle.tui_line_places.proofs.graphemes.looked_up_grapheme.Goals as goal

pub returns-then-is_newline : goal.returns-then-is_newline
returns-then-is_newline c =
    let first = c.in-Some.ensures in
    over c.args.max_width c.args.text.now c.clusters.rest.now c.in-Some.after.now c.in-Some.cluster.now first.utf8 c.clusters.invariant.1 first.clusters first.whole first.shorter (sym c.if-is_newline.ensures)

pub returns-then-is_shown : goal.returns-then-is_shown
returns-then-is_shown c =
    let first = c.in-Some.ensures in
    next_shown c.args.max_width c.args.text.now c.clusters.rest.now c.in-Some.after.now c.in-Some.cluster.now first.utf8 c.clusters.invariant.1 first.clusters first.whole first.shorter
    c.cell_width-width.result c.is_blank.result (sym c.if-is_newline.ensures) c.cell_width-width.ensures c.is_blank.ensures (sym c.if-is_shown.ensures)

pub clusters-preserved : goal.clusters-preserved
clusters-preserved c =
    let first = c.in-Some.ensures in (
      first.utf8,
      still_hidden c.args.max_width c.args.text.now c.clusters.rest.now c.in-Some.after.now c.in-Some.cluster.now first.utf8 c.clusters.invariant.1 first.clusters first.whole first.shorter
          c.cell_width-width.result (sym c.if-is_newline.ensures) c.cell_width-width.ensures (sym c.if-is_shown.ensures),
    )
