use Rattle.std.proofs.Common.{arith, refl}
use Rattle.tui_pages_lib.proofs.DrawnPieces.{lines_more, pieces_done, pieces_more, rows_kept}
use Rattle.tui_pages_lib.proofs.drawing.draw_pieces.Goals as goal

pub pieces-preserved : goal.pieces-preserved
pieces-preserved c =
    let p = c.requires.drawable c.pieces.i (record { place = 0; from = 0; to = 0 }) c.pieces-test.true in
    record {
      rest = λ final q. c.pieces.invariant.rest final
          (pieces_more c.args.buf.now.area c.args.page _ c.args.places.now c.args.content.records.now _ c.pieces.row _ _ c.args.content.pieces.now c.pieces.i
          (record { place = 0; from = 0; to = 0 }) c.pieces.buf _ final c.pieces-test.true c.pieces.invariant.kept.area p.place
          c.index-records-piece.is refl refl c.rows_from-rows.ensures c.in_ok-draw_cells.ensures.ok q);
      kept = rows_kept c.args.page _ _ _ _ _ _ (omega (arith, c.pieces.invariant.below)) c.pieces.invariant.kept c.rows_from-rows.ensures
          c.draw_cells.ensures.kept;
      below = omega (
        arith,
        c.pieces.invariant.below,
        lines_more c.args.content.pieces.now c.pieces.i (record { place = 0; from = 0; to = 0 }) c.pieces-test.true,
      );
    }

pub returns-clause-ok : goal.returns-clause-ok
returns-clause-ok c =
    c.pieces.invariant.rest _
    (pieces_done _ c.args.page c.args.places.now _ c.pieces.row c.pieces.i c.args.content.pieces.now _ c.pieces-test.false)

pub returns-in_err-draw_cells-clause-kept : goal.returns-in_err-draw_cells-clause-kept
returns-in_err-draw_cells-clause-kept c =
    rows_kept c.args.page _ _ _ _ _ _ (omega (arith, c.pieces.invariant.below)) c.pieces.invariant.kept c.rows_from-rows.ensures c.draw_cells.ensures.kept
