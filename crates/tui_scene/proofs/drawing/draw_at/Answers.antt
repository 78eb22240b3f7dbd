use Rattle.tui_scene.specs.Item.{placed_data}
use Rattle.tui_scene.proofs.Places.{kept_there, moved_there, step_there}
use Rattle.tui_scene.proofs.drawing.draw_at.Goals as goal

pub returns-clause-step : goal.returns-clause-step
returns-clause-step c =
    step_there c.draw_placed.result placed_data c.scene.inside.placed.items c.args.scene.now c.args.at c.index_mut.result.now c.draw_placed.new.placed
    c.args.buf.now c.draw_placed.new.buf c.scene.view_is c.requires c.index_mut.ensures.value c.draw_placed.ensures.step

pub returns-clause-state : goal.returns-clause-state
returns-clause-state c =
    moved_there c.draw_placed.result placed_data c.scene.inside.placed.items c.args.scene.now c.args.at c.index_mut.result.now c.draw_placed.new.placed
    c.args.buf.now.area c.scene.view_is c.requires c.index_mut.ensures.value c.draw_placed.ensures.state

pub returns-clause-err_state : goal.returns-clause-err_state
returns-clause-err_state c =
    kept_there c.draw_placed.result placed_data c.scene.inside.placed.items c.args.scene.now c.args.at c.index_mut.result.now c.draw_placed.new.placed
    c.scene.view_is c.requires c.index_mut.ensures.value c.draw_placed.ensures.err_state
