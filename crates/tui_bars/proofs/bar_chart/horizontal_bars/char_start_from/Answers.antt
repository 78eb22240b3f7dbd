use Rattle.tui_bars.proofs.CharStarts.{start_is}
use Rattle.tui_bars.proofs.bar_chart.horizontal_bars.char_start_from.Goals as goal

pub returns-clause-is : goal.returns-clause-is
returns-clause-is c = start_is c.args.text.now c.args.place _ c.requires (c.ceil_char_boundary.ensures.bound c.requires) c.ceil_char_boundary.ensures.boundary c.ceil_char_boundary.ensures.nearest
