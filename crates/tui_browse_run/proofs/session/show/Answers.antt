use Rattle.std.proofs.Common.{map}
use Rattle.tui_browse_run.proofs.Parsing.{not_shown, shown_by}
use Rattle.tui_browse_run.proofs.session.show.Goals as goal
use Rattle.tui_pager_lib.specs.Entry.{entry_data}

pub returns-in-Ok : goal.returns-in-Ok
returns-in-Ok g c =
    shown_by c.args.setting (map entry_data c.args.entries.items) c.in-Ok.app _ _ c.run.new.app c.run.result c.in-Ok.ensures c.run.ensures

pub returns-in-Err : goal.returns-in-Err
returns-in-Err g c = not_shown c.args.setting (map entry_data c.args.entries.items) _
