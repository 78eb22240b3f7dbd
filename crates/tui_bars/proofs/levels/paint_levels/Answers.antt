use Rattle.std.proofs.Common.{arith}
use Rattle.tui_cells.proofs.Painting.{KeptOutside-then}
use Rattle.tui_bars.proofs.BarLevels.{level_done, level_more}
use Rattle.tui_bars.proofs.levels.paint_levels.Goals as goal

pub rows-preserved : goal.rows-preserved
rows-preserved c = record {
  rest = λ final q. c.rows.invariant.rest final
      (level_more _ _ _ _ c.rows.up _ _ _ _ _ _ _ final (omega arith) c.saturating_sub-left.ensures c.level.ensures.is c.row_at-row.ensures c.in_ok-fill_clipped.ensures.ok q);
  kept = KeptOutside-then c.rows.invariant.kept c.in_ok-fill_clipped.ensures.kept;
}

pub returns-clause-ok : goal.returns-clause-ok
returns-clause-ok c = c.rows.invariant.rest _ (level_done _ _ _ _ c.rows.up _ _ _ (omega arith))
