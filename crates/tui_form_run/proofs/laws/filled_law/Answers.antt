use Rattle.tui_form_run.proofs.Meant.{quit_is_meant, quit_keeps_names}
use Rattle.tui_form_run.proofs.laws.filled_law.Goals as goal

pub returns : goal.returns
returns c = record { meant = quit_is_meant; names = quit_keeps_names }
