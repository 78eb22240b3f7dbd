use Rattle.std.proofs.Common.{◌∙◌, ap, map}
use Rattle.tui_lists.specs.ListItem.{heights_of}
use Rattle.tui_pager_lib.specs.Screen.{title_item}
use Rattle.tui_pager_lib.specs.Steps.{scrolled}
use Rattle.tui_pager_lib.proofs.contents.Contents.scroll_to_selection.Goals as goal

pub returns : goal.returns
returns c =
    c.scroll_to_selection.ensures
    ∙ ap (λ hs. scrolled hs c.args.rows c.args.state) (c.self.invariant.heights_are ∙ ap (λ es. heights_of (map title_item es)) c.self.view_is)
