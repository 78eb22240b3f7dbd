use Rattle.std.proofs.Common.{sym, ◌∙◌, refl}
use Rattle.tui_frames.specs.Borders.{both_borders}
use Rattle.tui_schema.specs.Kinds.Borders.{side_named}
use Rattle.tui_schema.proofs.Arrays.{joined_end, joined_more}
use Rattle.tui_schema.proofs.kinds.borders.all_sides.Goals as goal

pub returns-in_err-named_side : goal.returns-in_err-named_side
returns-in_err-named_side c =
    let h = sym c.loop-name.invariant ∙ joined_more both_borders side_named c.loop-name.sides c.loop-name.name-index c.args.names.now c.name-item.result c.loop-name-test.true c.name-item.is in
    rw c.from_residual.ensures (sym (h ∙ rw (← c.in_err-named_side.ensures) refl))

pub loop-name-preserved : goal.loop-name-preserved
loop-name-preserved c =
    let h = sym (joined_more both_borders side_named c.loop-name.sides c.loop-name.name-index c.args.names.now c.name-item.result c.loop-name-test.true c.name-item.is) ∙ c.loop-name.invariant in
    let h = rw (← c.in_ok-named_side.ensures) at h in
    rw c.union-sides.ensures h

pub returns : goal.returns
returns c = sym (joined_end both_borders side_named c.loop-name.sides c.loop-name.name-index c.args.names.now c.loop-name-test.false) ∙ c.loop-name.invariant
