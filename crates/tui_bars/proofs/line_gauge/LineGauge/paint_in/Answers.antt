use Rattle.std.proofs.Common.{sym, ◌∙◌}
use Rattle.tui_cells.proofs.Painting.{KeptOutside-then, Painted-still, Painted-then}
use Rattle.tui_frames.specs.InBlockStays.{nowhere_if}
use Rattle.tui_frames.proofs.InBlock.{inner_kept}
use Rattle.tui_text.proofs.Elements.{on_ok}
use Rattle.tui_bars.specs.LineGauge.{line_gauge_data, line_gauge_layers}
use Rattle.tui_bars.specs.Stays.{framed_stays, line_gauge_stays}
use Rattle.tui_bars.proofs.line_gauge.LineGauge.paint_in.Goals as goal

pub returns-then-is_empty-clause-ok : goal.returns-then-is_empty-clause-ok
returns-then-is_empty-clause-ok c =
    let g = line_gauge_data c.args.self.now in
    Painted-still c.args.buf.now (framed_stays g.block g.style (line_gauge_layers g) c.args.clip (line_gauge_stays g _))
    (nowhere_if g.block c.args.clip (sym c.is_empty.ensures ∙ c.if-is_empty.true))

pub returns-clause-ok : goal.returns-clause-ok
returns-clause-ok c =
    on_ok c.paint_content.result (λ painted. Painted-then c.in_ok-inner.ensures.ok painted) (rw c.in_ok-inner.ensures.inside at c.paint_content.ensures.ok)

pub returns-clause-kept : goal.returns-clause-kept
returns-clause-kept c =
    KeptOutside-then c.in_ok-inner.ensures.kept
    (inner_kept (line_gauge_data c.args.self.now).block c.args.clip (rw c.in_ok-inner.ensures.inside at c.paint_content.ensures.kept))
