use Rattle.std.proofs.Common.{sym, ◌∙◌}
use Rattle.tui_cells.proofs.Painting.{KeptOutside-then, Painted-still}
use Rattle.tui_frames.specs.InBlockStays.{nowhere_if}
use Rattle.tui_frames.proofs.InBlock.{framed, inner_kept}
use Rattle.tui_table.specs.Idempotence.{table_rests}
use Rattle.tui_table.specs.Stays.{table_stays}
use Rattle.tui_table.specs.Table.{table_data}
use Rattle.tui_table.proofs.table.Table.paint_in.Goals as goal

pub returns-then-is_empty-clause-ok : goal.returns-then-is_empty-clause-ok
returns-then-is_empty-clause-ok c =
    let t = table_data c.args.self.now in
    Painted-still c.args.buf.now (table_stays t c.args.state c.args.clip) (nowhere_if t.block c.args.clip (sym c.is_empty.ensures ∙ c.if-is_empty.true))

pub returns-then-is_empty-clause-after : goal.returns-then-is_empty-clause-after
returns-then-is_empty-clause-after c = sym (table_rests (table_data c.args.self.now) c.args.state c.args.clip (sym c.is_empty.ensures ∙ c.if-is_empty.true))

pub returns-clause-ok : goal.returns-clause-ok
returns-clause-ok c =
    let t = table_data c.args.self.now in
    framed c.paint_inside.result t.block t.style c.args.clip _ _ _ _ c.in_ok-inner.ensures.ok (rw c.in_ok-inner.ensures.inside at c.paint_inside.ensures.ok)

pub returns-clause-kept : goal.returns-clause-kept
returns-clause-kept c =
    let t = table_data c.args.self.now in
    KeptOutside-then c.in_ok-inner.ensures.kept (inner_kept t.block c.args.clip (rw c.in_ok-inner.ensures.inside at c.paint_inside.ensures.kept))
