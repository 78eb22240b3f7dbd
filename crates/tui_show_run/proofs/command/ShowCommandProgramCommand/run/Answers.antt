use Rattle.std.proofs.Common.{refl}
use Rattle.tui_program.proofs.Outcomes.{ends_without_reading}
use Rattle.tui_show_run.specs.Demo.{IsDemo}
use Rattle.tui_show_run.proofs.command.ShowCommandProgramCommand.run.Goals as goal

pub returns-in-Demo : goal.returns-in-Demo
returns-in-Demo g c =
    rw c.in-Demo.is (ends_without_reading (IsDemo c.in-Demo.n) _ c.show_demo.result (record { left = refl; quiet = refl }) c.show_demo.ensures)
