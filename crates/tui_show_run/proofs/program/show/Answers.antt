use Rattle.std.proofs.Common.{inl, inr, ◌∙◌}
use Rattle.tui_program.proofs.Outcomes.{run_ends}
use Rattle.tui_show_run.specs.declared.command.ShowCommand.TheVariants as command
use Rattle.tui_show_run.proofs.Commands.{fault_is, name_none, usage_is}
use Rattle.tui_show_run.proofs.program.show.Goals as goal

pub returns-clause-ends : goal.returns-clause-ends
returns-clause-ends g c = rw (c.into.ensures (run_ends c.run.ensures)) c.run.ensures.ends

pub returns-clause-complete : goal.returns-clause-complete
returns-clause-complete g c = λ are. rw (c.into.ensures (run_ends c.run.ensures)) (c.run.ensures.complete command.Scene are)

pub returns-clause-demo : goal.returns-clause-demo
returns-clause-demo g c = λ n are. rw (c.into.ensures (run_ends c.run.ensures)) (c.run.ensures.complete (command.Demo n) are)

pub returns-clause-usage : goal.returns-clause-usage
returns-clause-usage g c = λ wrong.
    elim (c.run.ensures.usage (name_none _ wrong)) [
      | inl usage ↦ inl (usage_is c.into.result (c.into.ensures (run_ends c.run.ensures) ∙ usage))
      | inr io_error ↦ inr (fault_is c.into.result (c.into.ensures (run_ends c.run.ensures) ∙ io_error))
    ]
