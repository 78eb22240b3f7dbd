use Rattle.tui_pages_lib.proofs.ContinuesFromByte.{begins_at, ends_with}
use Rattle.tui_pages_lib.proofs.starts.byte_offset_in.Goals as goal

pub returns : goal.returns
returns c =
    let there = ends_with c.args.cell.now c.args.rest.now c.requires.0 c.requires.1 in
    record { rest = there; begins = begins_at c.args.cell.now c.args.rest.now there c.utf8.rest }
