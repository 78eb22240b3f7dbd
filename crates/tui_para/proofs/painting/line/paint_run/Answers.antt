use Rattle.std.proofs.Common.{map, arith}
use Rattle.std.proofs.lemmas.List.{length-map}
use Rattle.tui_cells.proofs.Painting.{KeptOutside-then}
use Rattle.tui_text.specs.Grapheme.{glyph_of}
use Rattle.tui_para.proofs.Painted.{run_ended, run_done}
use Rattle.tui_para.proofs.painting.line.paint_run.Goals as goal

pub returns-then-x-right-clause-ok : goal.returns-then-x-right-clause-ok
returns-then-x-right-clause-ok c = c.loop-place.invariant.rest _ (run_ended _ _ _ _ _ (rw (← c.right.ensures) c.if-x-right.true))

pub returns-clause-ok : goal.returns-clause-ok
returns-clause-ok c =
    let long = length-map c.args.run.now glyph_of in
    let far = c.loop-place-test.false in
    c.loop-place.invariant.rest _ (run_done _ _ _ (map glyph_of c.args.run.now) c.loop-place.place _ (omega arith))

pub loop-place-preserved : goal.loop-place-preserved
loop-place-preserved c =
    let k = c.loop-place.invariant in
    record {
      rest = λ final q. k.rest final (c.in_ok-next.ensures.rest final q);
      kept = KeptOutside-then k.kept c.paint_next.ensures.kept;
      within = c.in_ok-next.ensures.within.1;
      column = let right = c.in_ok-next.ensures.right in let left = k.column in omega arith;
    }
