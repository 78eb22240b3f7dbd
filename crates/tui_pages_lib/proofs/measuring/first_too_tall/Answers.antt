use Rattle.tui_pages_lib.proofs.Measured.{low_all, low_more}
use Rattle.tui_pages_lib.proofs.measuring.first_too_tall.Goals as goal

pub heights-preserved : goal.heights-preserved
heights-preserved c =
    low_more c.args.heights.now c.heights.place _ c.heights-test.true c.heights.invariant c.if-heights-place-gt-MAX_LINES.false

pub returns : goal.returns
returns c = low_all c.args.heights.now c.heights.place c.heights-test.false c.heights.invariant
