use Rattle.serde_json.specs.View.{view}
use Rattle.tui_program.proofs.Outcomes.{ends_for, ends_unparsed, ends_unread}
use Rattle.tui_program.proofs.job.run_json.Goals as goal

pub returns-in-Err : goal.returns-in-Err
returns-in-Err g c =
    ends_unread (g.J.Job.job_rules c.args.job.now) g.J.Rejects.line _ c.in-Err.stop c.report_stop.result (c.in-Err.ensures _ _) c.report_stop.ensures

pub returns-in-Ok-json_or_explain : goal.returns-in-Ok-json_or_explain
returns-in-Ok-json_or_explain g c =
    let json = c.in-Ok-json_or_explain.ensures in
    ends_for (g.J.Job.job_rules c.args.job.now) _ c.in-Ok.bytes.items (view c.in-Ok-json_or_explain.value) c.run_value-outcome.result
    (record { whole = c.in-Ok.ensures _ _; utf8 = json.0; json = json.1 }) c.run_value-outcome.ensures

pub returns-in-Err-json_or_explain : goal.returns-in-Err-json_or_explain
returns-in-Err-json_or_explain g c =
    ends_unparsed (g.J.Job.job_rules c.args.job.now) g.J.Rejects.line _ c.in-Ok.bytes.items c.in-Err-json_or_explain.stop c.report_stop-in-Err-json_or_explain.result (c.in-Ok.ensures _ _)
    c.in-Err-json_or_explain.ensures c.report_stop-in-Err-json_or_explain.ensures
