use Rattle.std.proofs.Common.{arith, ◌∙◌, sym}
use Rattle.std.proofs.lemmas.Grind.{common_steps}
use Rattle.tui_lists.proofs.ListMoved.{after_is, after_none, content_none, content_some}
use Rattle.tui_lists.proofs.list.List.paint_content.Goals as goal

pub returns-then-len-eq0-clause-ok : goal.returns-then-len-eq0-clause-ok
returns-then-len-eq0-clause-ok c = content_none _ _ _ _ (grind (arith, common_steps))

pub returns-then-len-eq0-clause-state : goal.returns-then-len-eq0-clause-state
returns-then-len-eq0-clause-state c = c.default.ensures ∙ sym (after_none _ _ _ c.requires (grind (arith, common_steps)))

pub returns-clause-ok : goal.returns-clause-ok
returns-clause-ok c =
    content_some _ _ _ c.window-window.result c.clamp_selection-selected.result _ _ _ (grind (arith, common_steps)) c.window-window.ensures.found c.clamp_selection-selected.ensures
    (omega (arith, c.max-end.ensures, c.window-window.ensures.order)) c.in_ok-paint_items.ensures.ok

pub returns-clause-state : goal.returns-clause-state
returns-clause-state c =
    after_is _ _ _ c.window-window.result c.clamp_selection-selected.result c.requires (grind (arith, common_steps)) c.window-window.ensures.found c.clamp_selection-selected.ensures
