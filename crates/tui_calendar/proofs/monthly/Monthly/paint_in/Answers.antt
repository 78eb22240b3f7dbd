use Rattle.std.proofs.Common.{sym, ◌∙◌}
use Rattle.tui_cells.proofs.Painting.{KeptOutside-then, Painted-still, Painted-then}
use Rattle.tui_frames.specs.InBlockStays.{in_block_stays, nowhere_if}
use Rattle.tui_frames.proofs.InBlock.{inner_kept}
use Rattle.tui_text.proofs.Elements.{on_ok}
use Rattle.tui_calendar.specs.Monthly.{monthly_data}
use Rattle.tui_calendar.specs.MonthlyStays.{monthly_stays}
use Rattle.tui_calendar.specs.MonthlyStrokes.{monthly_layers}
use Rattle.tui_calendar.proofs.monthly.Monthly.paint_in.Goals as goal

pub returns-then-is_empty-clause-ok : goal.returns-then-is_empty-clause-ok
returns-then-is_empty-clause-ok g c =
    let m = monthly_data c.args.self.now in
    let style_of = g.DS.DateStyler.date_style c.args.self.now.events in
    Painted-still c.args.buf.now (in_block_stays m.block (monthly_layers style_of m) c.args.clip (monthly_stays style_of m _))
    (nowhere_if m.block c.args.clip (sym c.is_empty.ensures ∙ c.if-is_empty.true))

pub returns-clause-ok : goal.returns-clause-ok
returns-clause-ok g c =
    on_ok c.paint_content.result (λ painted. Painted-then c.in_ok-paint_if_some.ensures.ok painted) (rw c.inner_if_some.ensures at c.paint_content.ensures.ok)

pub returns-clause-kept : goal.returns-clause-kept
returns-clause-kept g c =
    KeptOutside-then c.in_ok-paint_if_some.ensures.kept
    (inner_kept (monthly_data c.args.self.now).block c.args.clip (rw c.inner_if_some.ensures at c.paint_content.ensures.kept))
