use Rattle.std.proofs.Common.{arith}
use Rattle.tui_cells.proofs.Painting.{KeptOutside-then}
use Rattle.tui_lists.proofs.Runs.{run_done, run_more}
use Rattle.tui_lists.proofs.scrollbar.Scrollbar.paint_run.Goals as goal

pub places-preserved : goal.places-preserved
places-preserved c = record {
  rest = λ final q. c.places.invariant.rest final
      (run_more _ _ _ _ _ _ _ _ _ _ final (omega arith) c.along-at.ensures c.in_ok-paint_sign.ensures.ok q);
  kept = KeptOutside-then c.places.invariant.kept c.in_ok-paint_sign.ensures.kept;
}

pub returns-clause-ok : goal.returns-clause-ok
returns-clause-ok c = c.places.invariant.rest _ (run_done _ _ _ _ c.places.i _ _ _ (omega arith))
