use Rattle.std.proofs.Common.{sym, ◌∙◌, refl}
use Rattle.tui_cells.specs.Style.{both_modifiers}
use Rattle.tui_schema.specs.Kinds.Modifier.{modifier_named}
use Rattle.tui_schema.proofs.Arrays.{joined_end, joined_more}
use Rattle.tui_schema.proofs.kinds.modifier.all_modifiers.Goals as goal

pub returns-in_err-named_modifier : goal.returns-in_err-named_modifier
returns-in_err-named_modifier c =
    let h =
    sym c.loop-name.invariant
    ∙ joined_more both_modifiers modifier_named c.loop-name.modifiers c.loop-name.name-index c.args.names.now c.name-item.result
    c.loop-name-test.true c.name-item.is in
    rw c.from_residual.ensures (sym (h ∙ rw (← c.in_err-named_modifier.ensures) refl))

pub loop-name-preserved : goal.loop-name-preserved
loop-name-preserved c =
    let h =
    sym
    (joined_more both_modifiers modifier_named c.loop-name.modifiers c.loop-name.name-index c.args.names.now c.name-item.result
    c.loop-name-test.true c.name-item.is)
    ∙ c.loop-name.invariant in
    let h = rw (← c.in_ok-named_modifier.ensures) at h in
    rw c.union-modifiers.ensures h

pub returns : goal.returns
returns c = sym (joined_end both_modifiers modifier_named c.loop-name.modifiers c.loop-name.name-index c.args.names.now c.loop-name-test.false) ∙ c.loop-name.invariant
