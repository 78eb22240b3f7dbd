use Rattle.std.proofs.Common.{string_bytes}
use Rattle.tui_files_run.proofs.browsing.begin.Goals as goal
use Rattle.tui_files_run.specs.Browsing.{unreadable}

pub returns-in-None : goal.returns-in-None
returns-in-None g c =
    let resolved = rw (c.first_folder.ensures, c.in-Some.is) at c.in_ok-path.ensures in
    let none = rw (c.in-None.is, c.as_str.ensures.value) at c.in_ok-app.ensures.begins in
    unreadable (string_bytes c.in-Some.path) resolved none
