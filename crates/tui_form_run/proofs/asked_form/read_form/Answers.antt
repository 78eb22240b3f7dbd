use Rattle.std.proofs.Common.{ap, refl}
use Rattle.serde_json.specs.View.{view}
use Rattle.tui_form_lib.specs.Form.{form_data}
use Rattle.tui_form_run.proofs.asked_form.read_form.Goals as goal
use Rattle.tui_form_run.specs.Asked.{form_reader, with_files}
use Rattle.tui_system.proofs.Commanding.{comes_read}

pub returns : goal.returns
returns g c =
    let files = c.in_ok-files.files in
    let json = c.in_ok-value.ensures in (
      record { files = files; form = form_data c.in_ok-form.form },
      comes_read (g.S.System.gives c.args.system.now) form_reader files c.in_ok-files.bytes _ c.in_ok-files.ensures
          (view c.in_ok-value.value, json.0, json.1, ap (with_files files) c.in_ok-form.ensures),
      refl,
    )
