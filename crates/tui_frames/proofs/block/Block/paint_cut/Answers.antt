use Rattle.std.proofs.Common.{arith}
use Rattle.tui_cells.proofs.Painting.{KeptOutside-then}
use Rattle.tui_text.specs.Setting.{AreAllocationFree}
use Rattle.tui_text.proofs.Elements.{seen_at}
use Rattle.tui_frames.specs.Block.{block_data, title_data}
use Rattle.tui_frames.specs.Strokes.{titles_cut}
use Rattle.tui_frames.proofs.TitleStrokes.{cut_done, cut_ended, one_more}
use Rattle.tui_frames.proofs.block.Block.paint_cut.Goals as goal

pub returns-then-column-from-clause-ok : goal.returns-then-column-from-clause-ok
returns-then-column-from-clause-ok c =
    c.loop-title.invariant.rest _ (cut_ended (block_data c.args.self.now) c.args.strip.clip c.args.strip.row c.args.cut c.loop-title.column _ _ (omega arith))

pub returns-in_err-column-clause-allocation_free : goal.returns-in_err-column-clause-allocation_free
returns-in_err-column-clause-allocation_free c allocation_free =
    let at = rw c.deref-title-items.ensures.value at c.title-item.is in
    let broken =
    c.in_err-column.ensures.allocation_free
    (seen_at title_data (λ t. AreAllocationFree t.line.spans) c.args.self.now.titles.items c.loop-title.title-index _ _ (omega arith) at allocation_free) in
    cc

pub loop-title-preserved : goal.loop-title-preserved
loop-title-preserved c =
    let b = block_data c.args.self.now in
    let at = rw c.deref-title-items.ensures.value at c.title-item.is in
    record {
      rest = λ final q. c.loop-title.invariant.rest final
          (one_more (titles_cut b c.args.strip.clip c.args.strip.row c.args.cut c.loop-title.column)
          (titles_cut b c.args.strip.clip c.args.strip.row c.args.cut c.in_ok-column.column) b c.args.strip.place
          c.args.self.now.titles.items c.loop-title.title-index c.title-item.result _ _ _ final (omega arith) at c.in_ok-column.ensures.ok q);
      kept = KeptOutside-then c.loop-title.invariant.kept c.in_ok-column.ensures.kept;
    }

pub returns-clause-ok : goal.returns-clause-ok
returns-clause-ok c =
    c.loop-title.invariant.rest _
    (cut_done (block_data c.args.self.now) c.args.strip.clip c.args.strip.row c.args.cut c.loop-title.column c.args.strip.place
    c.args.self.now.titles.items c.loop-title.title-index _ (omega arith))
