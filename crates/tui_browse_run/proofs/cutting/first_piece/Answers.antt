use Rattle.std.proofs.Common.{arith}
use Rattle.tui_browse_run.proofs.FirstPiece.{boundary_after_line_feed, cut_piece, full_piece, full_some, whole_piece, window}
use Rattle.tui_browse_run.proofs.cutting.first_piece.Goals as goal

pub returns-then-lines-eq-MOST_LINES-clause-ends : goal.returns-then-lines-eq-MOST_LINES-clause-ends
returns-then-lines-eq-MOST_LINES-clause-ends c =
    let lines = c.whole_lines-lines.result in
    let h = window c.args.text.now c.as_bytes-bytes.result.now c.min-within.result lines.len lines.line_feeds c.as_bytes-bytes.ensures.value c.min-within.ensures
    c.whole_lines-lines.ensures in
    full_piece c.args.text.now c.min-within.result lines.len lines.line_feeds h (let is = c.min-within.ensures in omega arith) c.if-lines-eq-MOST_LINES.true

pub returns-then-lines-eq-MOST_LINES-clause-boundary : goal.returns-then-lines-eq-MOST_LINES-clause-boundary
returns-then-lines-eq-MOST_LINES-clause-boundary c =
    let lines = c.whole_lines-lines.result in
    let h = window c.args.text.now c.as_bytes-bytes.result.now c.min-within.result lines.len lines.line_feeds c.as_bytes-bytes.ensures.value c.min-within.ensures
    c.whole_lines-lines.ensures in
    boundary_after_line_feed c.args.text.now c.min-within.result lines.len lines.line_feeds h c.utf8.text
    (full_some c.args.text.now c.min-within.result lines.len lines.line_feeds h c.if-lines-eq-MOST_LINES.true)

pub returns-then-lines-gt0-clause-ends : goal.returns-then-lines-gt0-clause-ends
returns-then-lines-gt0-clause-ends c =
    let lines = c.whole_lines-lines.result in
    let h = window c.args.text.now c.as_bytes-bytes.result.now c.min-within.result lines.len lines.line_feeds c.as_bytes-bytes.ensures.value c.min-within.ensures
    c.whole_lines-lines.ensures in
    let most = rw c.as_bytes-bytes.ensures.value at c.min-within.ensures in
    let other = rw c.as_bytes-bytes.ensures.value at c.if-within-bytes.false in
    let full = c.if-lines-eq-MOST_LINES.false in
    let few = h.few in
    whole_piece c.args.text.now c.min-within.result lines.len lines.line_feeds h (grind arith) (grind arith) (grind arith) c.if-lines-gt0.true

pub returns-then-lines-gt0-clause-boundary : goal.returns-then-lines-gt0-clause-boundary
returns-then-lines-gt0-clause-boundary c =
    let lines = c.whole_lines-lines.result in
    let h = window c.args.text.now c.as_bytes-bytes.result.now c.min-within.result lines.len lines.line_feeds c.as_bytes-bytes.ensures.value c.min-within.ensures
    c.whole_lines-lines.ensures in
    boundary_after_line_feed c.args.text.now c.min-within.result lines.len lines.line_feeds h c.utf8.text c.if-lines-gt0.true

pub returns-clause-ends : goal.returns-clause-ends
returns-clause-ends c =
    let lines = c.whole_lines-lines.result in
    let h = window c.args.text.now c.as_bytes-bytes.result.now c.min-within.result lines.len lines.line_feeds c.as_bytes-bytes.ensures.value c.min-within.ensures
    c.whole_lines-lines.ensures in
    let most = rw c.as_bytes-bytes.ensures.value at c.min-within.ensures in
    let other = rw c.as_bytes-bytes.ensures.value at c.if-within-bytes.false in
    let full = c.if-lines-eq-MOST_LINES.false in
    let few = h.few in
    let over = c.if-lines-gt0.false in
    cut_piece c.args.text.now c.min-within.result lines.len lines.line_feeds c.floor_char_boundary.result h (grind arith) (grind arith) (grind arith) (grind arith)
    c.utf8.text c.floor_char_boundary.ensures.bound c.floor_char_boundary.ensures.boundary c.floor_char_boundary.ensures.nearest
