use Rattle.std.proofs.Common.{refl, rules}
use Rattle.std.specs.Prelude.{codes}
use Rattle.tui_text.proofs.AllocationFreeTexts.{printable_styled}
use Rattle.tui_app.proofs.too_small.draw_too_small.Goals as goal

pub returns-clause-says : goal.returns-clause-says
returns-clause-says c =
    let painted = rw (c.area-area.ensures, c.new.ensures) at c.in_ok-set_stringn_in.ensures.ok in
    record { before = c.args.buf.now; filled = c.requires; painted = painted }

-- each of its graphemes is one byte
pub returns-in_err-set_stringn_in-clause-allocation_free : goal.returns-in_err-set_stringn_in-clause-allocation_free
returns-in_err-set_stringn_in-clause-allocation_free c =
    let impossible = c.in_err-set_stringn_in.ensures.allocation_free (printable_styled (codes "too small") c.new.result refl) in
    search rules
