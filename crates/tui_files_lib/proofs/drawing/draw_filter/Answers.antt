use Rattle.tui_files_lib.proofs.Typed.{filter_kept, types_in}
use Rattle.tui_files_lib.proofs.drawing.draw_filter.Goals as goal
use Rattle.tui_input.specs.Input.{input_data}

pub returns-clause-kept : goal.returns-clause-kept
returns-clause-kept c =
    filter_kept (input_data c.new-input.result) c.status_area.result c.filter_area-inside.result c.args.area c.args.filter_text.now c.args.buf.now c.draw_line.new.buf
    c.render.new.buf c.new-input.ensures c.status_area.ensures c.filter_area-inside.ensures c.in_ok-draw_line.ensures c.in_ok-render.ensures.ok

pub returns-clause-typed : goal.returns-clause-typed
returns-clause-typed c =
    types_in (input_data c.new-input.result) c.filter_area-inside.result c.args.area c.args.filter_text.now c.render.new.state c.args.buf.now.area
    c.draw_line.new.buf.area c.cursor.result c.new-input.ensures c.filter_area-inside.ensures c.in_ok-draw_line.ensures.area c.in_ok-render.ensures.state
    c.cursor.ensures c.in_ok-render.ensures.shows
