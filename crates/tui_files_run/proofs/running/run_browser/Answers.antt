use Rattle.std.proofs.Common.{ap, option_map}
use Rattle.std.proofs.lemmas.Result.{err_from_is_err_and}
use Rattle.tui_files_run.proofs.Ending.{ends_nowhere, ends_otherwise, ends_unopened, ends_writing, untouched}
use Rattle.tui_files_run.proofs.running.run_browser.Goals as goal
use Rattle.tui_files_run.proofs.running.run_browser.Goals.{in_default-via-in-Some+in_default, in_default-via-in_default}
use Rattle.tui_files_run.specs.Chosen.{IsChosen}
use Rattle.tui_files_run.specs.Ends.{out_of_memory, shown}
use Rattle.tui_system.specs.Places.{place_data}

pub returns-in_err-setting : goal.returns-in_err-setting
returns-in_err-setting g c =
    let p = err_from_is_err_and c.from_residual.result c.from_residual.ensures.1 in
    rw (p.1, p.2) (out_of_memory (untouched _) (untouched _))

pub returns-in_err-place : goal.returns-in_err-place
returns-in_err-place g c =
    let p = err_from_is_err_and c.from_residual-in_err-place.result c.from_residual-in_err-place.ensures.1 in
    rw (p.1, p.2) (out_of_memory (untouched _) (untouched _))

pub returns-in_err-open_at : goal.returns-in_err-open_at
returns-in_err-open_at g c =
    let p = err_from_is_err_and c.from_residual-in_err-open_at.result c.from_residual-in_err-open_at.ensures.1 in
    rw (p.1, p.2) (ends_unopened _ _ _ _ _ _ _ _ (g.A.Destination.is_open_at c.open_at.new.destination) c.args.browsing.command c.args.browsing.app
    (option_map place_data c.in_ok-place.place) c.in_err-open_at.field-0.0 c.in_ok-place.ensures c.in_err-open_at.ensures)

pub returns-in-Some-Quit : goal.returns-in-Some-Quit
returns-in-Some-Quit g c =
    let opened = c.in_ok-open_at.ensures in
    shown c.in_ok-setting.setting (option_map place_data c.in_ok-place.place) c.run-end.new.app c.run-end.result c.write_chosen.result c.in_ok-setting.ensures.given
    c.in_ok-place.ensures (λ place is. (c.open_at.new.destination, opened.0, opened.1 place is)) c.run-end.ensures
    (ends_writing (IsChosen _ _ _) _ (place_data c.in-Some-Quit.field-0-0) _ _ _ _ _ (ap (option_map place_data) c.in-Some-Quit.is-0) c.in-Some-Quit.is-1 opened.0 c.write_chosen.ensures)

pub returns : goal.returns
returns g c =
    let opened = c.in_ok-open_at.ensures in
    shown c.in_ok-setting.setting (option_map place_data c.in_ok-place.place) c.run-end.new.app c.run-end.result c.session_outcome.result c.in_ok-setting.ensures.given
    c.in_ok-place.ensures (λ place is. (c.open_at.new.destination, opened.0, opened.1 place is)) c.run-end.ensures
    (elim c.in_default.branch [
      | in_default-via-in-Some+in_default w ↦ ends_otherwise _ _ _ _ _ _ w.in_default.not-Quit-1 opened.0 c.session_outcome.ensures
      | in_default-via-in_default w ↦ ends_nowhere _ _ _ _ _ _ (ap (option_map place_data) w.in_default.is-0) opened.0 c.session_outcome.ensures
    ])
