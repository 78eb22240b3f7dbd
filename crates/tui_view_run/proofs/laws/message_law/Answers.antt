use Rattle.tui_view_run.proofs.Messages.{messages_replace}
use Rattle.tui_view_run.proofs.laws.message_law.Goals as goal

pub returns : goal.returns
returns c = messages_replace
