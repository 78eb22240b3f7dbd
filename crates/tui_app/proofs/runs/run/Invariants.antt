use Rattle.std.proofs.Common.{◌≡◌}
use Rattle.tui_app.specs.Parts.{SessionReached, state_of}
use Rattle.tui_cells.specs.Rect.{area_of}
use Rattle.tui_app.proofs.runs.run.Given as goal

abbrev pub invariant-iterations : goal.invariant-iterations
invariant-iterations g l =
    record {
      areas : l.buffers.shown.area ≡ l.buffers.spare.area;
      reached : SessionReached g.A.App.behaviour l.fn.output l.fn.app (area_of 0 0 l.fn.size.width l.fn.size.height) (state_of l.app l.keys l.buffers)
          (g.T.Sink.observed l.fn.terminal) (g.T.Sink.observed l.terminal) l._i;
    }
