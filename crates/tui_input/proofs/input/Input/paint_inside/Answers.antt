use Rattle.std.proofs.Common.{arith, sym, ◌∙◌}
use Rattle.tui_input.specs.Input.{input_data}
use Rattle.tui_input.specs.Scroll.{with_first}
use Rattle.tui_input.proofs.InputMoved.{after_some, content_none, content_some, rests_at, scrolls_to}
use Rattle.tui_input.proofs.input.Input.paint_inside.Goals as goal

pub returns-then-not-has_cell-clause-ok : goal.returns-then-not-has_cell-clause-ok
returns-then-not-has_cell-clause-ok c =
    content_none (input_data c.args.self.now) c.args.inner c.args.state.now c.args.buf.now (sym c.has_cell.ensures ∙ c.if-not-has_cell.true)

pub returns-then-not-has_cell-clause-state : goal.returns-then-not-has_cell-clause-state
returns-then-not-has_cell-clause-state c =
    rests_at (input_data c.args.self.now) c.args.inner c.args.state.now _ (sym c.has_cell.ensures ∙ c.if-not-has_cell.true) c.first.ensures

pub paint_text-requires-clause-cell : goal.paint_text-requires-clause-cell
paint_text-requires-clause-cell c = sym c.has_cell.ensures ∙ c.if-not-has_cell.false

pub paint_text-requires-clause-fits : goal.paint_text-requires-clause-fits
paint_text-requires-clause-fits c =
    let fits = c.first_in-first.ensures.moves.moves.is_valid.fits in let is = c.room_of.ensures.is in omega arith

pub returns-clause-ok : goal.returns-clause-ok
returns-clause-ok c =
    let i = input_data c.args.self.now in
    let s = c.args.state.now in
    content_some i c.args.inner s (with_first s c.first_in-first.result) _ _ (sym c.has_cell.ensures ∙ c.if-not-has_cell.false)
    (scrolls_to i c.args.inner s _ _ c.room_of.ensures.is c.first_in-first.ensures.is) c.in_ok-paint_text.ensures.ok

pub returns-clause-state : goal.returns-clause-state
returns-clause-state c =
    let i = input_data c.args.self.now in
    let s = c.args.state.now in
    scrolls_to i c.args.inner s _ _ c.room_of.ensures.is c.first_in-first.ensures.is
    ∙ sym (after_some i c.args.inner s (sym c.has_cell.ensures ∙ c.if-not-has_cell.false))

pub returns-in_err-paint_text-clause-allocation_free : goal.returns-in_err-paint_text-clause-allocation_free
returns-in_err-paint_text-clause-allocation_free c = λ around text. let broken = c.in_err-paint_text.ensures.allocation_free around text in cc
