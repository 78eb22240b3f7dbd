use Rattle.std.proofs.Common.{subst}
use Rattle.std.specs.Str.{IsUtf8}
use Rattle.std.proofs.lemmas.Str.{IsCharBoundary-start}
use Rattle.tui_text.proofs.AllocationFreeTexts.{allocation_free_styled}
use Rattle.tui_bars.proofs.bar_chart.horizontal_bars.paint_within.Goals as goal

pub returns-in_err-set_stringn_in-clause-allocation_free : goal.returns-in_err-set_stringn_in-clause-allocation_free
returns-in_err-set_stringn_in-clause-allocation_free c allocation_free =
    let same = c.text.ensures in
    let fits = allocation_free 0 (IsCharBoundary-start _ (subst IsUtf8 same c.text.utf8)) in
    let broken = c.in_err-set_stringn_in.ensures.allocation_free (allocation_free_styled c.text.result.now _ (rw same fits)) in cc
