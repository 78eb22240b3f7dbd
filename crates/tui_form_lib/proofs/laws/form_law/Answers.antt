use Rattle.tui_form_lib.proofs.Seen.{form_is_shown}
use Rattle.tui_form_lib.proofs.laws.form_law.Goals as goal

pub returns : goal.returns
returns c = form_is_shown c.args.output c.waiting_law.ensures
