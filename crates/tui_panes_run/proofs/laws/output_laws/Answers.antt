use Rattle.tui_panes_run.proofs.FromBlank.{prints_afresh}
use Rattle.tui_panes_run.proofs.Output.{one_output, reverse_is_same}
use Rattle.tui_panes_run.proofs.laws.output_laws.Goals as goal

pub returns : goal.returns
returns c = record { one = one_output; from_blank = prints_afresh; reverse = reverse_is_same }
