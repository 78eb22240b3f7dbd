use Rattle.std.proofs.Common.{refl}
use Rattle.tui_pages_lib.proofs.Keeping.{cutting_more, cutting_done}
use Rattle.tui_pages_lib.proofs.filling.Filling.add.Goals as goal

pub cutting-preserved : goal.cutting-preserved
cutting-preserved c =
    λ rest. cutting_more c.args.room c.args.place c.args.height c.cutting.from c.next_end-to.result c.cutting.self _ _ rest _ c.requires c.cutting-test.true c.next_end-to.ensures refl
    c.in_ok-push_piece.ensures (c.cutting.invariant rest)

pub returns : goal.returns
returns c = λ rest. cutting_done c.args.room c.args.place c.args.height c.cutting.from c.cutting.self rest _ c.cutting-test.false (c.cutting.invariant rest)
