use Rattle.serde_json.specs.View.{view}
use Rattle.tui_schema.specs.Scene.{reading_data}
use Rattle.tui_view_run.specs.Rules.{rows_job}
use Rattle.tui_program.proofs.Outcomes.{answers_input}
use Rattle.tui_view_run.proofs.rows.RowsCommandJob.answer.Goals as goal

pub returns-clause-answers : goal.returns-clause-answers
returns-clause-answers g c =
    answers_input (rows_job c.args.self.now.depth) (view c.args.value.now) (reading_data c.in_ok-reading.reading) c.in_ok-reading.ensures _ _ c.show_rows-answer.result
    c.show_rows-answer.ensures
