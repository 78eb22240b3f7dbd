use Rattle.std.proofs.Common.{[], arith, ap, length}
use Rattle.tui_pages_lib.proofs.Keeping.{length-parts, page_read}
use Rattle.tui_pages_lib.proofs.pages.Pages.page.Goals as goal

pub start_of-start-requires : goal.start_of-start-requires
start_of-start-requires c = omega (arith, c.deref.ensures.len, ap length c.deref.ensures.value, length-parts 0 c.self.inside.ends.items c.self.inside.pieces.items, ap length c.self.view_is)

pub index-end-requires : goal.index-end-requires
index-end-requires c = omega (arith, length-parts 0 c.self.inside.ends.items c.self.inside.pieces.items, ap length c.self.view_is)

pub part-requires : goal.part-requires
part-requires c =
    let read = page_read _ _ _ _ [] _ _ _ _ c.self.view_is c.self.invariant c.requires c.deref.ensures.value c.deref-2.ensures.value c.start_of-start.ensures c.index-end.ensures in
    record { order = read.0; inside = read.1 }

pub returns : goal.returns
returns c = (page_read _ _ _ _ _ _ _ _ _ c.self.view_is c.self.invariant c.requires c.deref.ensures.value c.deref-2.ensures.value c.start_of-start.ensures c.index-end.ensures).2 c.part.ensures
