use Rattle.std.proofs.Common.{◌≡◌, ◌+◌, ◌-◌, ap, refl, sym, arith}
use Rattle.tui_cells.proofs.Painting.{KeptOutside-then}
use Rattle.tui_text.specs.Setting.{AreAllocationFree}
use Rattle.tui_text.proofs.Elements.{seen_at}
use Rattle.tui_frames.specs.Block.{block_data, title_data}
use Rattle.tui_frames.specs.Titles.{spaced}
use Rattle.tui_frames.proofs.TitleLists.{titles_in-none}
use Rattle.tui_frames.proofs.TitleStrokes.{end_done, end_more, end_of_room, end_taken}
use Rattle.tui_frames.proofs.block.Block.paint_to_end.Goals as goal

pub loop-i-init : goal.loop-i-init
loop-i-init c = record {
  shown = end_done (block_data c.args.self.now) c.args.strip.clip c.args.strip.row c.args.strip.place c.args.self.now.titles.items _ _ (omega arith);
  taken = sym (ap spaced (titles_in-none (block_data c.args.self.now) c.args.strip.place c.args.self.now.titles.items _ (omega arith)));
  kept = record { area = refl; cells = λ x y out. refl };
}

pub returns-then-after-from-clause-ok : goal.returns-then-after-from-clause-ok
returns-then-after-from-clause-ok c =
    let b = block_data c.args.self.now in
    let known = c.loop-i.invariant in
    end_of_room b c.args.strip.clip c.args.strip.row c.args.strip.place c.args.self.now.titles.items (c.len-count.result - c.loop-i.i) _ _
    (omega (arith, known.taken)) known.shown

pub returns-in_err-after-clause-allocation_free : goal.returns-in_err-after-clause-allocation_free
returns-in_err-after-clause-allocation_free c allocation_free =
    let broken =
    c.in_err-after.ensures.allocation_free
    (seen_at title_data (λ t. AreAllocationFree t.line.spans) c.args.self.now.titles.items (c.len-count.result - 1 - c.loop-i.i) _ _
    (omega arith) c.index-title.ensures allocation_free) in
    cc

pub loop-i-preserved : goal.loop-i-preserved
loop-i-preserved c =
    let b = block_data c.args.self.now in
    let titles = c.args.self.now.titles.items in
    let k = c.len-count.result - c.loop-i.i in
    let m = c.len-count.result - (c.loop-i.i + 1) in
    let same : c.len-count.result - 1 - c.loop-i.i ≡ m = omega arith in
    let known = c.loop-i.invariant in
    record {
      shown = end_more b c.args.strip.clip c.args.strip.row c.args.strip.place titles m k c.loop-i.after c.in_ok-after.after c.index-title.result.now _ _ _ _
          (omega arith) (rw same at c.index-title.ensures) (omega arith) c.in_ok-after.ensures.ok known.shown known.taken;
      taken = end_taken b c.args.strip.place titles m k c.loop-i.after c.in_ok-after.after c.index-title.result.now _
          (omega arith) (rw same at c.index-title.ensures) (omega arith) c.in_ok-after.ensures.taken known.taken;
      kept = KeptOutside-then known.kept c.in_ok-after.ensures.kept;
    }
