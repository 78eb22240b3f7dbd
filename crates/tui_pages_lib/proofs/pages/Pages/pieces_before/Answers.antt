use Rattle.std.proofs.Common.{arith, ap, length}
use Rattle.tui_pages_lib.proofs.Keeping.{before_read, length-parts}
use Rattle.tui_pages_lib.proofs.pages.Pages.pieces_before.Goals as goal

pub start_of-requires : goal.start_of-requires
start_of-requires c = omega (
  arith,
  c.deref.ensures.len,
  ap length c.deref.ensures.value,
  length-parts 0 c.self.inside.ends.items c.self.inside.pieces.items,
  ap length c.self.view_is,
)

pub returns : goal.returns
returns c = before_read _ _ c.self.inside.pieces.items _ _ _ c.self.view_is c.self.invariant c.requires c.deref.ensures.value c.start_of.ensures
