use Rattle.std.proofs.Common.{true, refl}
use Rattle.tui_pages_run.proofs.printing.ended.Goals as goal

pub returns : goal.returns
returns g c = (true, c.in_ok-end.ensures.writes_if, refl)
