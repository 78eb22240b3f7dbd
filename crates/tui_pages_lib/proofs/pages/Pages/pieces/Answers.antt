use Rattle.std.proofs.Common.{sym, ap, ◌∙◌}
use Rattle.tui_pages_lib.specs.Pages.{all_pieces}
use Rattle.tui_pages_lib.proofs.Keeping.{all_pieces-parts}
use Rattle.tui_pages_lib.proofs.pages.Pages.pieces.Goals as goal

pub returns : goal.returns
returns c = c.deref.ensures.value ∙ (sym (all_pieces-parts 0 c.self.inside.ends.items c.self.inside.pieces.items c.self.invariant) ∙ ap all_pieces c.self.view_is)
