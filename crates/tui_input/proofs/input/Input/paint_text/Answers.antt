use Rattle.std.proofs.Common.{ℕ, ◌≤◌, subst, sym, ◌∙◌}
use Rattle.tui_input.specs.Input.{input_data}
use Rattle.tui_input.specs.Scroll.{columns_from, shown, with_first}
use Rattle.tui_input.proofs.InputMoved.{kept_in_row, placeholder_painted, text_painted}
use Rattle.tui_input.proofs.input.Input.paint_text.Goals as goal

pub returns-then-is_empty-clause-ok : goal.returns-then-is_empty-clause-ok
returns-then-is_empty-clause-ok c =
    placeholder_painted c.paint_placeholder.result (input_data c.args.self.now) c.args.inner (with_first c.args.state.now c.args.first) _ _
    (sym c.is_empty.ensures ∙ c.if-is_empty.true) c.paint_placeholder.ensures.ok

pub returns-then-is_empty-clause-allocation_free : goal.returns-then-is_empty-clause-allocation_free
returns-then-is_empty-clause-allocation_free c = λ around text. c.paint_placeholder.ensures.allocation_free around.placeholder

pub paint_sides-requires-clause-fits : goal.paint_sides-requires-clause-fits
paint_sides-requires-clause-fits c =
    let pieces = shown (input_data c.args.self.now).mask c.args.state.now.before in
    subst (λ (n : ℕ). columns_from pieces c.args.first ≤ n) (sym c.room_of.ensures.is) c.requires.fits

pub returns-clause-ok : goal.returns-clause-ok
returns-clause-ok c =
    let same = c.corner.ensures in
    text_painted c.paint_sides.result (input_data c.args.self.now) c.args.inner (with_first c.args.state.now c.args.first) _ _ _
    (sym c.is_empty.ensures ∙ c.if-is_empty.false) c.room_of.ensures.is (rw same at c.paint_sides.ensures.ok)

pub returns-clause-kept : goal.returns-clause-kept
returns-clause-kept c =
    let same = c.corner.ensures in
    kept_in_row c.args.inner _ _ _ c.requires.cell c.room_of.ensures.is (rw same at c.paint_sides.ensures.kept)

pub returns-clause-allocation_free : goal.returns-clause-allocation_free
returns-clause-allocation_free c = λ around text. c.paint_sides.ensures.allocation_free text
