use Rattle.std.proofs.Common.{[], ◌∷◌, ◌++◌, map, take}
use Rattle.tui_app.specs.Over.{DrawsOver, IsSized, state_at}
use Rattle.tui_cells.specs.Rect.{area_of}
use Rattle.tui_app.proofs.over.run_over.Given as goal

abbrev pub invariant-reads : goal.invariant-reads
invariant-reads g l =
    record {
      draws : DrawsOver g.A.App.behaviour l.fn.app (area_of 0 0 l.fn.size.width l.fn.size.height) (map (λ bytes. bytes.now) (take l.i l.reads))
          (state_at l.app l.last) (l.screens.items ++ l.last.shown ∷ []);
      sized : IsSized l.last;
    }
