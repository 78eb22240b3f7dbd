use Rattle.std.proofs.Common.{map}
use Rattle.std.proofs.lemmas.Result.{err_from_is_err_and}
use Rattle.serde_json.specs.View.{view}
use Rattle.tui_browse_run.proofs.browsing.show_json.Goals as goal
use Rattle.tui_browse_run.specs.Input.{entries_of}
use Rattle.tui_pager_lib.specs.Entry.{entry_data}
use Rattle.tui_program.proofs.Reaching.{means_rejected, means_unparsed}

pub returns-in_err-value-clause-shown : goal.returns-in_err-value-clause-shown
returns-in_err-value-clause-shown g c =
    let p = err_from_is_err_and c.from_residual.result c.from_residual.ensures.1 in
    rw (p.1, p.2) (means_unparsed entries_of c.args.bytes.items c.in_err-value.field-0.0 c.in_err-value.ensures)

pub returns-in_err-entries-clause-shown : goal.returns-in_err-entries-clause-shown
returns-in_err-entries-clause-shown g c =
    let p = err_from_is_err_and c.from_residual-in_err-entries.result c.from_residual-in_err-entries.ensures.1 in
    let json = c.in_ok-value.ensures in
    rw (p.1, p.2) (means_rejected entries_of c.args.bytes.items (view c.in_ok-value.value) c.in_err-entries.field-0.0 json.0 json.1 c.in_err-entries.ensures)

pub returns-clause-shown : goal.returns-clause-shown
returns-clause-shown g c =
    let json = c.in_ok-value.ensures in
    (map entry_data c.in_ok-entries.entries.items, (view c.in_ok-value.value, json.0, json.1, c.in_ok-entries.ensures), c.show.ensures)
