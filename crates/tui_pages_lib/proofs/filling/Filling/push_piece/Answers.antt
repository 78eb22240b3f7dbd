use Rattle.std.proofs.Common.{arith, ap, ◌∙◌}
use Rattle.tui_pages_lib.specs.Filling.{Draft}
use Rattle.tui_pages_lib.specs.Pages.{lines_on}
use Rattle.tui_pages_lib.proofs.Keeping.{push_fits, push_starts_page}
use Rattle.tui_pages_lib.proofs.filling.Filling.push_piece.Goals as goal

pub returns-in_ok-push : goal.returns-in_ok-push
returns-in_ok-push c =
    push_fits _ _ _ _ c.self.inside.used c.args.room c.args.piece _ c.self.view_is c.self.invariant c.in_ok-push.ensures.items (omega arith)

pub returns-in_ok-push-2 : goal.returns-in_ok-push-2
returns-in_ok-push-2 c =
    let lines = c.self.invariant.lines ∙ ap (λ (d : Draft). lines_on d.current) c.self.view_is in
    push_starts_page _ _ _ _ _ c.args.room c.self.inside.used c.args.piece c.args.self.now _ c.self-else-self-room.view_is c.self-else-self-room.invariant c.in_ok-end_page.ensures
    c.in_ok-push-2.ensures.items lines (omega arith)
