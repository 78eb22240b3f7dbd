use Rattle.tui_layout.specs.declared.direction.Direction.TheVariants.{Vertical}
use Rattle.tui_bars.proofs.bar_chart.BarChart.paint_value.Goals as goal

pub returns-clause-allocation_free : goal.returns-clause-allocation_free
returns-clause-allocation_free c allocation_free = c.paint_value_text.ensures.allocation_free (c.value_text-text.ensures.allocation_free Vertical allocation_free.text)
