use Rattle.std.proofs.Common.{subst, sym}
use Rattle.tui_pager_lib.specs.Lines.{HaveLineStarts}
use Rattle.tui_pager_lib.specs.ViewState.{pager_data}
use Rattle.tui_pager_lib.proofs.Changing.{have_after}
use Rattle.tui_pager_lib.proofs.Stepping.{place_of}
use Rattle.tui_pager_lib.proofs.shown.ViewState.draw.Goals as goal

pub draw-requires-clause-place : goal.draw-requires-clause-place
draw-requires-clause-place c =
    let change = c.args.change.now in
    place_of c.args.contents.now change.size.width change.size.height change.state c.requires.change.sound

pub draw-requires-clause-line_starts : goal.draw-requires-clause-line_starts
draw-requires-clause-line_starts c =
    let entries = c.args.contents.now in
    let s = c.args.self.now in
    let change = c.args.change.now in
    subst (HaveLineStarts entries change.size.width change.state.selected) (sym c.line_starts_after-line_starts.ensures)
    (have_after (pager_data entries s) change.size.width change.state.selected s.line_starts.items change.line_starts c.requires.up_to_date.line_starts
    c.requires.change.line_starts)
