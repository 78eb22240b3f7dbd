use Rattle.tui_cells.proofs.Painting.{Painted-then}
use Rattle.tui_text.proofs.Elements.{on_ok}
use Rattle.tui_table.specs.Strokes.{row_layers}
use Rattle.tui_table.proofs.table.Table.paint_row.Goals as goal

pub returns-clause-ok : goal.returns-clause-ok
unfolding row_layers
returns-clause-ok c =
    on_ok c.paint_cells.result (λ painted. Painted-then c.set_style.ensures (Painted-then c.in_ok-paint_symbol.ensures.ok painted))
    (rw c.deref.ensures.value at c.paint_cells.ensures.ok)
