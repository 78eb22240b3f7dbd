use Rattle.std.proofs.Common.{sym, ◌∙◌}
use Rattle.tui_cells.proofs.Painting.{KeptOutside-then, Painted-still, Painted-then}
use Rattle.tui_frames.specs.InBlockStays.{in_block_stays, nowhere_if}
use Rattle.tui_frames.proofs.InBlock.{inner_kept}
use Rattle.tui_text.proofs.Elements.{on_ok}
use Rattle.tui_bars.specs.Sparkline.{sparkline_data, sparkline_layers}
use Rattle.tui_bars.specs.Stays.{sparkline_stays}
use Rattle.tui_bars.proofs.sparkline.Sparkline.paint_in.Goals as goal

pub returns-then-is_empty-clause-ok : goal.returns-then-is_empty-clause-ok
returns-then-is_empty-clause-ok c =
    let s = sparkline_data c.args.self.now in
    Painted-still c.args.buf.now (in_block_stays s.block (sparkline_layers s) c.args.clip (sparkline_stays s _))
    (nowhere_if s.block c.args.clip (sym c.is_empty.ensures ∙ c.if-is_empty.true))

pub returns-clause-ok : goal.returns-clause-ok
returns-clause-ok c =
    on_ok c.paint_content.result (λ painted. Painted-then c.in_ok-paint_if_some.ensures.ok painted) (rw c.inner_if_some.ensures at c.paint_content.ensures.ok)

pub returns-clause-kept : goal.returns-clause-kept
returns-clause-kept c =
    KeptOutside-then c.in_ok-paint_if_some.ensures.kept
    (inner_kept (sparkline_data c.args.self.now).block c.args.clip (rw c.inner_if_some.ensures at c.paint_content.ensures.kept))
