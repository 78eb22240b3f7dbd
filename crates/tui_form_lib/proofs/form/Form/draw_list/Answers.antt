use Rattle.std.proofs.Common.{Some, ap, subst, ◌∙◌}
use Rattle.tui_cells.specs.Layers.{Painted}
use Rattle.tui_cells.specs.Rect.{intersection_of}
use Rattle.tui_cells.specs.declared.rect.Rect.{Rect}
use Rattle.tui_form_lib.proofs.form.Form.draw_list.Goals as goal
use Rattle.tui_form_lib.specs.Drawing.{form_list, titled_block}
use Rattle.tui_form_lib.specs.Form.{form_data}
use Rattle.tui_frames.specs.Block.{BlockData}
use Rattle.tui_frames.specs.InBlock.{inner_of}
use Rattle.tui_frames.specs.Space.{inner}
use Rattle.tui_lists.specs.List.{ListData, list_after, list_data}
use Rattle.tui_lists.specs.ListStrokes.{list_layers}

pub returns-clause-cells : goal.returns-clause-cells
returns-clause-cells c =
    let f = form_data c.args.self.now in
    let block = c.in_ok-block.ensures ∙ ap titled_block c.as_str.ensures.value in
    let same = c.in_ok-list.ensures ∙ ap (λ (b : BlockData). record (form_list f) { block = Some b }) block in
    let painted = subst (λ (r : Rect). Painted (list_layers (list_data c.in_ok-list.list) c.args.state.now (intersection_of r c.args.buf.now.area)) c.args.buf.now c.render.new.buf)
    c.area-area.ensures c.in_ok-render.ensures.ok in
    subst (λ (l : ListData). Painted (list_layers l c.args.state.now (intersection_of c.args.buf.now.area c.args.buf.now.area)) c.args.buf.now c.render.new.buf) same painted

pub returns-clause-state : goal.returns-clause-state
returns-clause-state c =
    let f = form_data c.args.self.now in
    let area = c.args.buf.now.area in
    let block = c.in_ok-block.ensures ∙ ap titled_block c.as_str.ensures.value in
    let same = c.in_ok-list.ensures ∙ ap (λ (b : BlockData). record (form_list f) { block = Some b }) block in
    let l = list_data c.in_ok-list.list in
    c.in_ok-render.ensures.state ∙ (ap (λ (r : Rect). list_after l (inner_of l.block (intersection_of r area)) c.args.state.now) c.area-area.ensures
    ∙ ap (λ (m : ListData). list_after m (inner_of m.block (intersection_of area area)) c.args.state.now) same)

pub returns-clause-inside : goal.returns-clause-inside
returns-clause-inside c =
    let block = c.in_ok-block.ensures ∙ ap titled_block c.as_str.ensures.value in
    c.inner-inside.ensures.is ∙ (ap (λ (b : BlockData). inner b c.area-area.result) block
    ∙ ap (inner (titled_block (form_data c.args.self.now).title)) c.area-area.ensures)
