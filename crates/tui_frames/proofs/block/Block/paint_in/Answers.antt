use Rattle.std.proofs.Common.{sym, ◌∙◌}
use Rattle.tui_cells.proofs.Painting.{Painted-still, Painted-then}
use Rattle.tui_text.proofs.Elements.{on_ok}
use Rattle.tui_frames.specs.Block.{block_data}
use Rattle.tui_frames.specs.Stays.{block_stays, footprint_nowhere}
use Rattle.tui_frames.proofs.block.Block.paint_in.Goals as goal

pub returns-then-is_empty-clause-ok : goal.returns-then-is_empty-clause-ok
returns-then-is_empty-clause-ok c =
    let b = block_data c.args.self.now in
    Painted-still c.args.buf.now (block_stays b c.args.clip) (footprint_nowhere b.shadow c.args.clip (sym c.is_empty.ensures ∙ c.if-is_empty.true))

pub returns-clause-ok : goal.returns-clause-ok
returns-clause-ok c = on_ok c.paint_shadow.result (Painted-then c.in_ok-paint_frame.ensures.ok) c.paint_shadow.ensures.ok
