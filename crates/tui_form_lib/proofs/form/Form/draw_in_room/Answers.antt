use Rattle.std.proofs.Common.{ℕ, ap}
use Rattle.tui_form_lib.proofs.Drawn.{shows_form}
use Rattle.tui_form_lib.proofs.form.Form.draw_in_room.Goals as goal
use Rattle.tui_form_lib.specs.Form.{form_data}

pub returns-clause-shows : goal.returns-clause-shows
returns-clause-shows c =
    let f = form_data c.args.self.now in
    let mid = record f { offset = c.offset-self.result } in
    shows_form f mid (form_data c.draw_over.new.self) c.list_state-state.result c.draw_list.new.state c.in_ok-inside.inside c.value_row-row.result
    c.in_ok-place.place c.args.buf.now c.draw_list.new.buf c.draw_over.new.buf c.requires.room c.height-height.ensures.shape c.requires.filled
    c.list_state-state.ensures c.in_ok-inside.ensures.cells c.in_ok-inside.ensures.state c.in_ok-inside.ensures.inside
    (ap (λ (o : ℕ). record f { offset = o }) c.offset-self.ensures) c.value_row-row.ensures c.in_ok-place.ensures.cells c.in_ok-place.ensures.form
    c.in_ok-place.ensures.cursor
