use Rattle.std.proofs.Common.{◌∙◌, arith, sym}
use Rattle.tui_cells.proofs.Painting.{KeptOutside-then, KeptOutside-weaker, Painted-empty}
use Rattle.tui_cells.proofs.Regions.{rows_out}
use Rattle.tui_lists.specs.List.{list_data}
use Rattle.tui_lists.specs.ListStays.{gutter_stays}
use Rattle.tui_lists.proofs.ListItems.{gutter_done, gutter_more}
use Rattle.tui_lists.proofs.list.List.paint_gutter.Goals as goal

pub returns-then-is_empty-clause-ok : goal.returns-then-is_empty-clause-ok
returns-then-is_empty-clause-ok c =
    let gutter = c.args.gutter in
    Painted-empty gutter c.args.buf.now (gutter_stays (list_data c.args.self.now) c.args.is_selected gutter 0 gutter.height) (sym c.is_empty.ensures ∙ c.if-is_empty.true)

pub rows-preserved : goal.rows-preserved
rows-preserved c =
    let row = c.rows_from.ensures in
    record {
      rest = λ final q. c.rows.invariant.rest final
          (gutter_more (list_data c.args.self.now) c.args.is_selected _ c.args.gutter _ _ _ _ _ final (omega arith)
          (search) row c.in_ok-paint_mark.ensures.ok q);
      kept = KeptOutside-then c.rows.invariant.kept
          (KeptOutside-weaker (λ x y out. rows_out c.args.gutter c.rows.j 1 x y out) (rw row at c.in_ok-paint_mark.ensures.kept));
    }

pub returns-clause-ok : goal.returns-clause-ok
returns-clause-ok c = c.rows.invariant.rest _ (gutter_done _ _ _ _ _ _ (omega arith))
