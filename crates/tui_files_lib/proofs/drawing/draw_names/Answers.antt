use Rattle.std.proofs.Common.{List, map, ap, ◌∙◌, subst}
use Rattle.tui_cells.specs.Rect.{intersection_of}
use Rattle.tui_files_lib.proofs.Shown.{list_drawn}
use Rattle.tui_files_lib.proofs.drawing.draw_names.Goals as goal
use Rattle.tui_files_lib.specs.Drawing.{list_over, row_item}
use Rattle.tui_files_lib.specs.Rows.{row_label}
use Rattle.tui_frames.specs.InBlock.{inner_of}
use Rattle.tui_lists.specs.List.{ListData, ListMoves, list_data}
use Rattle.tui_lists.specs.ListItem.{ListItemData}

pub returns-clause-ok : goal.returns-clause-ok
returns-clause-ok c =
    let same = c.in_ok-list.ensures ∙ ap (λ (xs : List ListItemData). list_over xs c.args.names.title.now) c.in_ok-items.ensures in
    list_drawn (list_data c.in_ok-list.list) (list_over (map row_item (map row_label c.args.names.rows.now)) c.args.names.title.now) c.args.state.now c.render.new.state
    (intersection_of c.args.area c.args.buf.now.area) c.args.buf.now c.render.new.buf same c.in_ok-render.ensures.state c.in_ok-render.ensures.ok

pub returns-clause-moves : goal.returns-clause-moves
returns-clause-moves c =
    let same = c.in_ok-list.ensures ∙ ap (λ (xs : List ListItemData). list_over xs c.args.names.title.now) c.in_ok-items.ensures in
    subst (λ (l : ListData). ListMoves l (inner_of l.block (intersection_of c.args.area c.args.buf.now.area)) c.args.state.now c.render.new.state) same
    c.in_ok-render.ensures.shows
