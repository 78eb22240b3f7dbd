use Rattle.std.proofs.Common.{◌∙◌, ap, get_or, length, refl}
use Rattle.std.proofs.lemmas.List.{length-set}
use Rattle.tui_panes_lib.specs.Panes.{rects_of}
use Rattle.tui_panes_lib.proofs.Leaves.{OneMore, areas_stay, leaf_drawn, leaf_allocation_free, leaf_run, leaf_stopped, leaves_moved}
use Rattle.tui_panes_lib.proofs.drawing.draw_leaves.Goals as goal

pub returns-in-Err-clause-err : goal.returns-in-Err-clause-err
returns-in-Err-clause-err c =
    let leaf = get_or c.args.order.now c.leaves.at-index 0 in
    let m : OneMore c.args.order.now c.args.scene.now c.leaves.scene c.leaves.at-index leaf =
    record { within = c.leaves-test.true; here = refl; is = c.requires; same_length = c.leaves.invariant.same_length } in
    leaf_stopped c.args.order.now c.args.scene.now c.leaves.scene _ c.args.buf.now c.leaves.buf _ c.leaves.at-index leaf m c.leaves.invariant.drawn
    c.in-Err.ensures.err c.in-Err.ensures.err_state

pub returns-in-Err-clause-allocation_free : goal.returns-in-Err-clause-allocation_free
returns-in-Err-clause-allocation_free c all =
    let leaf = get_or c.args.order.now c.leaves.at-index 0 in
    let m : OneMore c.args.order.now c.args.scene.now c.leaves.scene c.leaves.at-index leaf =
    record { within = c.leaves-test.true; here = refl; is = c.requires; same_length = c.leaves.invariant.same_length } in
    c.in-Err.ensures.allocation_free (leaf_allocation_free c.args.order.now c.args.scene.now c.leaves.scene c.args.buf.now c.leaves.buf c.leaves.at-index leaf m
    c.leaves.invariant.drawn all)

pub leaves-preserved : goal.leaves-preserved
leaves-preserved c =
    let leaf = get_or c.args.order.now c.leaves.at-index 0 in
    let m : OneMore c.args.order.now c.args.scene.now c.leaves.scene c.leaves.at-index leaf =
    record { within = c.leaves-test.true; here = refl; is = c.requires; same_length = c.leaves.invariant.same_length } in
    record {
      drawn = leaf_drawn c.args.order.now c.args.scene.now c.leaves.scene c.draw_at.new.scene c.args.buf.now c.leaves.buf c.draw_at.new.buf
          c.leaves.at-index leaf m c.leaves.invariant.drawn c.in-Ok.ensures.ok c.in-Ok.ensures.state;
      run = λ last rest. c.leaves.invariant.run last
          (leaf_run c.args.order.now c.args.scene.now c.leaves.scene c.draw_at.new.scene c.args.buf.now c.leaves.buf c.draw_at.new.buf last
          c.leaves.at-index leaf m c.leaves.invariant.drawn c.in-Ok.ensures.step c.in-Ok.ensures.state rest);
      areas = areas_stay c.leaves.scene c.draw_at.new.scene c.leaves.buf.area leaf c.in-Ok.ensures.state ∙ c.leaves.invariant.areas;
      same_length = ap length c.in-Ok.ensures.state ∙ length-set c.leaves.scene leaf _ ∙ c.leaves.invariant.same_length;
    }

pub returns-clause-states : goal.returns-clause-states
returns-clause-states c =
    leaves_moved c.args.order.now c.args.scene.now c.leaves.scene c.args.buf.now c.leaves.buf c.leaves.at-index c.requires c.leaves-test.false
    c.leaves.invariant.same_length c.leaves.invariant.drawn

pub returns-in-Err-clause-areas : goal.returns-in-Err-clause-areas
returns-in-Err-clause-areas c = ap rects_of c.in-Err.ensures.err_state ∙ c.leaves.invariant.areas
