use Rattle.std.proofs.Common.{ap, option_map}
use Rattle.tui_files_run.proofs.running.open_at.Goals as goal
use Rattle.tui_system.specs.Places.{place_data}

pub returns-in-Err : goal.returns-in-Err
returns-in-Err g c =
    ((place_data c.in-Some.place, ap (option_map place_data) c.in-Some.is), rw c.in-Err.is at c.in_ok-open-in-Some.ensures.opens)
