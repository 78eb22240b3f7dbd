use Rattle.serde_json.specs.View.{view}
use Rattle.tui_panes_run.proofs.Accepted.{accepted}
use Rattle.tui_panes_run.proofs.command.PanesCommandJob.answer.Goals as goal

pub write-requires-clause-depth : goal.write-requires-clause-depth
write-requires-clause-depth g c = (accepted (view c.args.value.now) _ c.in_ok-input.ensures).levels_are

pub write-requires-clause-leaves : goal.write-requires-clause-leaves
write-requires-clause-leaves g c = (accepted (view c.args.value.now) _ c.in_ok-input.ensures).leaves_are _
