use Rattle.tui_program.specs.FieldLine.{refused_in_scene}
use Rattle.tui_program.proofs.field_line.write_refused_in_scene.Goals as goal

pub returns-in-None : goal.returns-in-None
unfolding refused_in_scene
returns-in-None g c = rw c.in-None.is c.write_scene_field.ensures
