use Rattle.std.proofs.Common.{refl}
use Rattle.tui_browse_run.proofs.laws.browsing_law.Goals as goal
use Rattle.tui_browse_run.specs.Shown.{app_of}

pub returns : goal.returns
returns c = record {
  waiting = λ entries width height state reads trace sent session.
      c.paging_law.ensures entries width height (app_of entries width height) state reads trace sent refl session;
  stopped = λ entries width height last end trace before now stop.
      c.paging_law.ensures entries width height (app_of entries width height) stop.state stop.reads stop.waited stop.sent refl stop.session;
}
