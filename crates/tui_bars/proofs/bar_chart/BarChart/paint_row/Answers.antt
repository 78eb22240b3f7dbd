use Rattle.tui_cells.proofs.Painting.{KeptOutside-then}
use Rattle.tui_bars.proofs.Walks.{row_painted}
use Rattle.tui_bars.specs.BarChart.{bar_data}
use Rattle.tui_layout.specs.declared.direction.Direction.TheVariants.{Horizontal}
use Rattle.tui_bars.proofs.bar_chart.BarChart.paint_row.Goals as goal

pub returns-clause-ok : goal.returns-clause-ok
returns-clause-ok c = row_painted _ _ _ _ (bar_data c.args.shown.bar.now) _ _ _ _ _ _ _ _ _ _ c.filled_of-filled.ensures c.middle_of-middle.ensures c.patch-style.ensures c.patch-value_style.ensures
    c.value_text-text.ensures.is c.in_ok-paint_strip.ensures.ok c.in_ok-paint_left.ensures.ok c.in_ok-paint_within.ensures.ok c.paint_beyond.ensures.ok

pub returns-clause-allocation_free : goal.returns-clause-allocation_free
returns-clause-allocation_free c levels allocation_free = c.paint_beyond.ensures.allocation_free (c.value_text-text.ensures.allocation_free Horizontal allocation_free.text)

pub returns-in_err-paint_within-clause-allocation_free : goal.returns-in_err-paint_within-clause-allocation_free
returns-in_err-paint_within-clause-allocation_free c levels allocation_free =
    let broken = c.in_err-paint_within.ensures.allocation_free (c.value_text-text.ensures.allocation_free Horizontal allocation_free.text) in cc

pub returns-in_err-paint_within-clause-kept : goal.returns-in_err-paint_within-clause-kept
returns-in_err-paint_within-clause-kept c =
    KeptOutside-then c.in_ok-paint_strip.ensures.kept (KeptOutside-then c.in_ok-paint_left.ensures.kept c.in_err-paint_within.ensures.kept)

pub returns-clause-kept : goal.returns-clause-kept
returns-clause-kept c =
    KeptOutside-then c.in_ok-paint_strip.ensures.kept
    (KeptOutside-then c.in_ok-paint_left.ensures.kept (KeptOutside-then c.in_ok-paint_within.ensures.kept c.paint_beyond.ensures.kept))
