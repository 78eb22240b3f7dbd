use Rattle.std.proofs.Common.{sym, ◌∙◌}
use Rattle.tui_cells.proofs.Painting.{KeptOutside-then, Painted-still, Painted-then}
use Rattle.tui_frames.specs.InBlockStays.{nowhere_if}
use Rattle.tui_frames.proofs.InBlock.{inner_kept}
use Rattle.tui_para.specs.Paragraph.{paragraph_data}
use Rattle.tui_para.specs.Stays.{paragraph_stays}
use Rattle.tui_para.proofs.TextOnce.{on_ok}
use Rattle.tui_para.proofs.paragraph.Paragraph.paint_in.Goals as goal

pub returns-then-is_empty-clause-ok : goal.returns-then-is_empty-clause-ok
returns-then-is_empty-clause-ok c =
    let p = paragraph_data c.args.self.now in
    Painted-still c.args.buf.now (paragraph_stays p c.args.clip) (nowhere_if p.block c.args.clip (sym c.is_empty.ensures ∙ c.if-is_empty.true))

pub returns-clause-ok : goal.returns-clause-ok
returns-clause-ok c =
    on_ok c.paint_content.result (λ painted. Painted-then c.in_ok-paint_under.ensures.ok painted) (rw c.inner_if_some.ensures at c.paint_content.ensures.ok)

pub returns-clause-kept : goal.returns-clause-kept
returns-clause-kept c =
    KeptOutside-then c.in_ok-paint_under.ensures.kept
    (inner_kept (paragraph_data c.args.self.now).block c.args.clip (rw c.inner_if_some.ensures at c.paint_content.ensures.kept))
