use Rattle.tui_input.specs.Input.{input_data}
use Rattle.tui_input.proofs.InputMoved.{masked_allocation_free}
use Rattle.tui_input.proofs.input.rendering.InputStatefulWidget.render.Goals as goal

pub returns-in_err-first-clause-allocation_free : goal.returns-in_err-first-clause-allocation_free
returns-in_err-first-clause-allocation_free c = λ h.
    let broken = c.in_err-first.ensures.allocation_free h.around (masked_allocation_free (input_data c.args.self.now).mask c.args.state.now h.mask) in
    cc

pub returns-in_err-first-clause-allocation_free_text : goal.returns-in_err-first-clause-allocation_free_text
returns-in_err-first-clause-allocation_free_text c = λ around text. let broken = c.in_err-first.ensures.allocation_free around text in cc
