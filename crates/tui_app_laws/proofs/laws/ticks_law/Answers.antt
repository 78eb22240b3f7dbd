use Rattle.tui_app_laws.proofs.OneTick.{ticks_are_one}
use Rattle.tui_app_laws.proofs.laws.ticks_law.Goals as goal

pub returns : goal.returns
returns c = ticks_are_one
