-- What `rows` has to do with a value.
use Rattle.std.specs.Prelude.{option_map}
use Rattle.tui_program.specs.Outcomes.{nothing}
use Rattle.tui_program.specs.Rules.{JobRules}
use Rattle.tui_json.specs.Explanation.{explanation}
use Rattle.tui_schema.specs.FieldFaults.{scene_fault}
use Rattle.tui_schema.specs.Scene.{SceneData, scene_of}
use Rattle.tui_schema.specs.declared.bad_field.BadField.{BadField}
use Rattle.tui_terminal_model.specs.declared.depth.Depth.{Depth}
use Rattle.tui_view_run.specs.Frames.{refusal_line}
use Rattle.tui_view_run.specs.Shown.{AreRowsShown}

-- for a terminal of this colour depth; nothing is written before everything is drawn
abbrev pub rows_job : Depth → JobRules BadField
rows_job depth = record {
  Input = SceneData;
  input_of = scene_of;
  line = refusal_line;
  explained = λ bad d. option_map explanation (scene_fault bad d);
  expected = AreRowsShown depth;
  part = λ s. nothing;
}
