use Rattle.std.proofs.Common.{[]}
use Rattle.tui_app.proofs.Looping.{drawn_first, drawn_next, over_all, over_at}
use Rattle.tui_app.specs.Over.{state_at}
use Rattle.tui_cells.specs.Rect.{area_of}
use Rattle.tui_app.proofs.over.run_over.Goals as goal

pub reads-init : goal.reads-init
reads-init g c = record {
  draws = drawn_first g.A.App.behaviour c.args.app.now (area_of 0 0 c.args.size.width c.args.size.height) (state_at c.draw_first.new.app c.in_ok-last.last)
      c.new-screens.result.items c.new-screens.ensures.items c.in_ok-last.ensures.first;
  sized = c.in_ok-last.ensures.sized;
}

pub reads-preserved : goal.reads-preserved
reads-preserved g c = record {
  draws = drawn_next g.A.App.behaviour c.args.app.now (area_of 0 0 c.args.size.width c.args.size.height) c.args.reads.now c.reads.i (record { ref_ptr = (0, 0); now = [] })
      (state_at c.reads.app c.reads.last) (state_at c.iterate.new.app c.iterate.new.last) c.reads.screens.items c.push.new.self.items c.in-Some.screen c.reads-test.true
      c.reads.invariant.draws (rw c.in-Some.is at c.in_ok-iterate.ensures.event_loop) c.in_ok-push-in-Some.ensures.items;
  sized = rw c.in-Some.is at c.in_ok-iterate.ensures.sized;
}

pub returns-in-None : goal.returns-in-None
returns-in-None g c =
    over_at _ c.with_last.result g.A.App.behaviour c.args.app.now (area_of 0 0 c.args.size.width c.args.size.height) c.args.reads.now c.reads.i (record { ref_ptr = (0, 0); now = [] })
    (state_at c.reads.app c.reads.last) (state_at c.iterate.new.app c.iterate.new.last) c.reads.screens.items c.reads-test.true
    c.reads.invariant.draws (rw c.in-None.is at c.in_ok-iterate.ensures.event_loop) c.with_last.ensures

pub returns : goal.returns
returns g c =
    over_all _ c.with_last-2.result g.A.App.behaviour c.args.app.now (area_of 0 0 c.args.size.width c.args.size.height) c.args.reads.now c.reads.i
    (state_at c.reads.app c.reads.last) c.reads.screens.items c.reads-test.false c.reads.invariant.draws c.with_last-2.ensures
