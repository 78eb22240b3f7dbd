use Rattle.std.proofs.Common.{arith}
use Rattle.tui_text.proofs.Elements.{on_ok}
use Rattle.tui_frames.specs.Block.{block_data}
use Rattle.tui_frames.specs.Titles.{titles_in}
use Rattle.tui_frames.proofs.TitleStrokes.{middle_fits, middle_is_cut}
use Rattle.tui_frames.proofs.block.Block.paint_middle.Goals as goal

pub returns-then-total-room-clause-ok : goal.returns-then-total-room-clause-ok
returns-then-total-room-clause-ok c =
    let b = block_data c.args.self.now in
    on_ok c.paint_from.result
    (middle_fits b c.args.strip.clip c.args.strip.row (titles_in b c.args.strip.place b.titles) _ c.total-total.result _ _ c.total-total.ensures (omega arith) (omega arith))
    c.paint_from.ensures.ok

pub returns-clause-ok : goal.returns-clause-ok
returns-clause-ok c =
    let b = block_data c.args.self.now in
    on_ok c.paint_cut.result
    (middle_is_cut b c.args.strip.clip c.args.strip.row (titles_in b c.args.strip.place b.titles) _ c.total-total.result _ _ c.total-total.ensures (omega arith) (omega arith))
    c.paint_cut.ensures.ok
