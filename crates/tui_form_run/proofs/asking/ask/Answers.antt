use Rattle.std.proofs.Common.{ap, option_map, refl, subst, ◌∙◌}
use Rattle.std.proofs.lemmas.Result.{err_from_is_err_and}
use Rattle.tui_form_lib.specs.Form.{form_data}
use Rattle.tui_form_run.proofs.Ending.{after_opening, place_or_errors, untouched, untouched_same}
use Rattle.tui_form_run.proofs.asking.ask.Goals as goal
use Rattle.tui_form_run.specs.Ends.{cannot_open, out_of_memory, shown}
use Rattle.tui_system.specs.Places.{place_data}

pub returns-in_err-setting : goal.returns-in_err-setting
returns-in_err-setting g c =
    let p = err_from_is_err_and c.from_residual.result c.from_residual.ensures.1 in
    rw (p.1, p.2) (out_of_memory (untouched _) (untouched _))

pub returns-in_err-place_for : goal.returns-in_err-place_for
returns-in_err-place_for g c =
    let p = err_from_is_err_and c.from_residual-in_err-place_for.result c.from_residual-in_err-place_for.ensures.1 in
    rw (p.1, p.2) (out_of_memory (untouched _) (untouched _))

pub returns-in_err-open : goal.returns-in_err-open
returns-in_err-open g c =
    let p = err_from_is_err_and c.from_residual-in_err-open.result c.from_residual-in_err-open.ensures.1 in
    rw (p.1, p.2) (out_of_memory (untouched _) (untouched_same _ _ c.in_err-open.ensures.opens))

pub returns-in-Ok : goal.returns-in-Ok
returns-in-Ok g c =
    let opens = rw c.in-Ok.is at c.in_ok-open.ensures.opens in
    let place = c.in_ok-place_for.field-0 in
    let same = ap place_data c.unwrap_or-place.ensures ∙ place_or_errors place in
    let is_open = subst (g.A.Destination.is_open_at c.open.new.self) same opens.1 in
    shown c.in_ok-setting.setting (option_map place_data place) c.args.asked.form c.show_form-end.new.form c.show_form-end.result c.answer.result
    c.in_ok-setting.ensures.given c.in_ok-place_for.ensures (c.open.new.self, opens.0, is_open) refl c.show_form-end.ensures
    (after_opening (form_data c.show_form-end.new.form) c.show_form-end.result _ _ _ c.answer.result opens.0 c.answer.ensures)

pub returns : goal.returns
returns g c = cannot_open (untouched _) (rw c.in-Err.is at c.in_ok-open.ensures.opens)
