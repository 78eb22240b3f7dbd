use Rattle.std.proofs.Common.{arith}
use Rattle.tui_browse_run.proofs.Counting.{feed_counted, first_counted, full_lines, lines_counted, other_counted}
use Rattle.tui_browse_run.proofs.cutting.whole_lines.Goals as goal
use Rattle.tui_browse_run.proofs.cutting.whole_lines.Goals.{then-bytes-i-eq-LINE_FEED+else-lines-eq-MOST_LINES, else-bytes-i-eq-LINE_FEED}

pub bytes-init : goal.bytes-init
bytes-init c = first_counted c.args.bytes.now

pub overflow_add-lines-then-bytes-i-eq-LINE_FEED : goal.overflow_add-lines-then-bytes-i-eq-LINE_FEED
overflow_add-lines-then-bytes-i-eq-LINE_FEED c = let below = c.bytes.invariant.below in omega arith

pub returns-then-lines-eq-MOST_LINES : goal.returns-then-lines-eq-MOST_LINES
returns-then-lines-eq-MOST_LINES c =
    full_lines c.args.bytes.now c.bytes.i c.bytes.lines.len c.bytes.lines.line_feeds c.bytes.invariant c.bytes-test.true c.if-bytes-i-eq-LINE_FEED.true
    c.if-lines-eq-MOST_LINES.true

pub bytes-preserved : goal.bytes-preserved
bytes-preserved c = elim c.if-bytes-i-eq-LINE_FEED.branch [
  | then-bytes-i-eq-LINE_FEED+else-lines-eq-MOST_LINES w ↦
      let below = c.bytes.invariant.below in
      let other = w.if-lines-eq-MOST_LINES.false in
      rw w.lines-is (feed_counted c.args.bytes.now c.bytes.i c.bytes.lines.len c.bytes.lines.line_feeds c.bytes.invariant c.bytes-test.true
      w.if-bytes-i-eq-LINE_FEED.true (grind arith))
  | else-bytes-i-eq-LINE_FEED w ↦
      rw w.lines-is (other_counted c.args.bytes.now c.bytes.i c.bytes.lines.len c.bytes.lines.line_feeds c.bytes.invariant c.bytes-test.true
      w.if-bytes-i-eq-LINE_FEED.false)
]

pub returns : goal.returns
returns c =
    let far = c.bytes.auto.i-end in
    let over = c.bytes-test.false in
    lines_counted c.args.bytes.now c.bytes.i c.bytes.lines.len c.bytes.lines.line_feeds c.bytes.invariant (grind arith)
