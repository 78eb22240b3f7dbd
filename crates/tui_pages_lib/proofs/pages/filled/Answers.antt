use Rattle.std.proofs.Common.{ap, refl}
use Rattle.tui_pages_lib.specs.Filling.{pages_by, pages_of, pieces_from}
use Rattle.tui_pages_lib.proofs.Keeping.{filled_ok, records_more}
use Rattle.tui_pages_lib.proofs.pages.filled.Goals as goal

pub filling-init : goal.filling-init
unfolding pages_of
filling-init c = ap (λ d. pages_by c.args.room d (pieces_from c.args.room 0 c.args.heights.now)) c.new-filling.ensures

pub filling-preserved : goal.filling-preserved
filling-preserved c = records_more c.args.room c.filling.place _ c.args.heights.now c.filling.filling c.add.new.self _ c.filling-test.true refl c.in_ok-add.ensures c.filling.invariant

pub returns : goal.returns
returns c = filled_ok _ c.args.room c.filling.place c.args.heights.now c.filling.filling _ c.filling-test.false c.filling.invariant c.finish.ensures
