use Rattle.std.proofs.Common.{◌∙◌, ap, refl}
use Rattle.tui_pager_lib.specs.Screen.{titles_list}
use Rattle.tui_pager_lib.proofs.BodyLineStarts.{count_is, within_of}
use Rattle.tui_pager_lib.proofs.PagerDrawn.{pager_drawn}
use Rattle.tui_pager_lib.proofs.Stepping.{most_is}
use Rattle.tui_pager_lib.proofs.contents.Contents.draw.Goals as goal

pub draw_titles-requires : goal.draw_titles-requires
draw_titles-requires c = c.requires.page.area_is

pub draw_body-requires-clause-area : goal.draw_body-requires-clause-area
draw_body-requires-clause-area c = c.in_ok-draw_titles.ensures.area ∙ c.requires.page.area_is

pub draw_body-requires-clause-line_starts : goal.draw_body-requires-clause-line_starts
draw_body-requires-clause-line_starts c =
    within_of c.args.self.now c.args.sized.size.width c.args.sized.state.selected _ c.args.line_starts.now c.body-body.ensures c.requires.line_starts

pub draw_bar-requires : goal.draw_bar-requires
draw_bar-requires c = c.in_ok-draw_body.ensures.area ∙ (c.in_ok-draw_titles.ensures.area ∙ c.requires.page.area_is)

pub draw_last_row-requires-clause-area : goal.draw_last_row-requires-clause-area
draw_last_row-requires-clause-area c =
    c.in_ok-draw_bar.ensures.area ∙ (c.in_ok-draw_body.ensures.area ∙ (c.in_ok-draw_titles.ensures.area ∙ c.requires.page.area_is))

pub returns-clause-drawn : goal.returns-clause-drawn
returns-clause-drawn c =
    let entries = c.args.self.now in
    let size = c.args.sized.size in
    let selected = c.args.sized.state.selected in
    let count = count_is entries size.width selected c.args.line_starts.now c.requires.place c.requires.line_starts in
    let most = most_is entries size.width size.height selected _ _ c.max_line-most.ensures count in
    pager_drawn (record { width = size.width; height = size.height; entries = entries; state = c.args.sized.state })
    _ _ _ _ _ _ _ _ _ _ (c.self.invariant.list_is ∙ ap titles_list c.self.view_is) c.body-body.ensures most c.len.ensures refl
    c.requires.page c.in_ok-draw_titles.ensures.drawn c.in_ok-draw_body.ensures.drawn c.in_ok-draw_bar.ensures.drawn c.in_ok-draw_last_row.ensures.drawn
    c.height-height.ensures.shape
