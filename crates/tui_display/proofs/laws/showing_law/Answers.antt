use Rattle.tui_display.proofs.Present.{lines_show}
use Rattle.tui_display.proofs.laws.showing_law.Goals as goal

pub returns : goal.returns
returns g c = lines_show (g.P.Painter.calls_for c.args.painter.now) c.args.output
