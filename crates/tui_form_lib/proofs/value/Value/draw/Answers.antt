use Rattle.std.proofs.Common.{sym, ap, subst, ◌∙◌}
use Rattle.tui_cells.specs.Layers.{Painted}
use Rattle.tui_cells.specs.Rect.{intersection_of}
use Rattle.tui_form_lib.proofs.value.Value.draw.Goals as goal
use Rattle.tui_form_lib.specs.Drawing.{typed_layers, value_drawn}
use Rattle.tui_form_lib.specs.Value.{typed_value, value_data}
use Rattle.tui_form_lib.specs.declared.value.Value.{Value}
use Rattle.tui_frames.specs.InBlock.{inner_of}
use Rattle.tui_input.specs.Input.{InputData, cursor_in, input_after, input_layers}
use Rattle.tui_input.specs.State.{TypedText}

pub returns-in_ok-render-in-Text-clause-cells : goal.returns-in_ok-render-in-Text-clause-cells
returns-in_ok-render-in-Text-clause-cells c =
    let clip = intersection_of c.args.row c.args.buf.now.area in
    let painted = subst (λ (i : InputData). Painted (input_layers i c.in-Text.input clip) c.args.buf.now c.render.new.buf) c.text_input-widget.ensures
    c.in_ok-render-in-Text.ensures.ok in
    subst (λ (v : Value). Painted (typed_layers clip (value_data v)) c.args.buf.now c.render.new.buf) (sym c.in-Text.is) painted

pub returns-in_ok-render-in-Text-clause-value : goal.returns-in_ok-render-in-Text-clause-value
returns-in_ok-render-in-Text-clause-value c =
    let clip = intersection_of c.args.row c.args.buf.now.area in
    let after = c.in_ok-render-in-Text.ensures.state ∙ ap (λ (i : InputData). input_after i (inner_of i.block clip) c.in-Text.input) c.text_input-widget.ensures in
    ap (λ (s : TypedText). typed_value s c.in-Text.is_masked) after ∙ sym (ap (λ (v : Value). value_drawn clip (value_data v)) c.in-Text.is)

pub returns-in_ok-render-in-Text-clause-cursor : goal.returns-in_ok-render-in-Text-clause-cursor
returns-in_ok-render-in-Text-clause-cursor c = c.cursor.ensures ∙ ap (λ (i : InputData). cursor_in i c.args.row c.render.new.state) c.text_input-widget.ensures
