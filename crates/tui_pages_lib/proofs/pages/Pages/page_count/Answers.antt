use Rattle.std.proofs.Common.{arith, ap, length}
use Rattle.tui_pages_lib.proofs.Keeping.{length-parts}
use Rattle.tui_pages_lib.proofs.pages.Pages.page_count.Goals as goal

pub returns : goal.returns
returns c = omega (arith, c.len.ensures, length-parts 0 c.self.inside.ends.items c.self.inside.pieces.items, ap length c.self.view_is)
