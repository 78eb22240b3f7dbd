use Rattle.tui_app_laws.proofs.Present.{waiting_shows}
use Rattle.tui_app_laws.proofs.laws.waiting_law.Goals as goal

pub returns : goal.returns
returns g c = waiting_shows g.A.App.behaviour c.args.output
