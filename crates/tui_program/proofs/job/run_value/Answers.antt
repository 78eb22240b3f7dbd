use Rattle.serde_json.specs.View.{view}
use Rattle.tui_program.proofs.Outcomes.{ends_answered}
use Rattle.tui_program.proofs.job.run_value.Goals as goal

pub returns-in-Err : goal.returns-in-Err
returns-in-Err g c =
    ends_answered (g.J.Job.job_rules c.args.job.now) g.J.Rejects.line (view c.args.value.now) c.in-Err.stop c.report_stop-ended.result _ _ _ c.answer.ensures.line
    c.in-Err.ensures.answers c.report_stop-ended.ensures
