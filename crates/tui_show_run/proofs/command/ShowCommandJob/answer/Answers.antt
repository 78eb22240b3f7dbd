use Rattle.serde_json.specs.View.{view}
use Rattle.tui_schema.specs.Scene.{reading_data}
use Rattle.tui_show_run.specs.Outcomes.{scene_job}
use Rattle.tui_program.proofs.Outcomes.{answers_input}
use Rattle.tui_show_run.proofs.command.ShowCommandJob.answer.Goals as goal

pub returns-clause-answers : goal.returns-clause-answers
returns-clause-answers g c =
    answers_input scene_job (view c.args.value.now) (reading_data c.in_ok-reading.reading) c.in_ok-reading.ensures _ _ c.show_scene-answer.result
    c.show_scene-answer.ensures
