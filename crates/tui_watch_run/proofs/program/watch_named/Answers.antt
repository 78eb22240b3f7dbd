use Rattle.std.proofs.Common.{inl, inr, refl}
use Rattle.std.proofs.lemmas.Result.{err_from_is_err_and}
use Rattle.tui_watch_run.proofs.program.watch_named.Goals as goal

pub returns-in_err-setting : goal.returns-in_err-setting
returns-in_err-setting g c =
    let p = err_from_is_err_and c.from_residual-in_err-setting.result c.from_residual-in_err-setting.ensures.1 in
    rw (p.1, p.2) (inr refl, refl)

pub returns-in_err-app : goal.returns-in_err-app
returns-in_err-app g c =
    let p = err_from_is_err_and c.from_residual-in_err-app.result c.from_residual-in_err-app.ensures.1 in
    rw (p.1, p.2) (inr refl, refl)

pub returns-in_err-folder : goal.returns-in_err-folder
returns-in_err-folder g c =
    let p = err_from_is_err_and c.from_residual.result c.from_residual.ensures.1 in
    rw (p.1, p.2) (inl c.in_err-folder.ensures, refl)

pub returns : goal.returns
returns g c =
    let setting = c.in_ok-setting.setting in
    record {
      command = c.in_ok-folder.field-0;
      named = c.in_ok-folder.ensures;
      setting = setting;
      settings = c.in_ok-setting.ensures.given;
      begin = c.in_ok-app.app;
      last = c.run.new.app;
      machine = rw c.in_ok-app.ensures.machine c.at.ensures;
      runs = c.in_ok-app.ensures.paused;
      run = c.run.ensures;
    }
