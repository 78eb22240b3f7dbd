use Rattle.tui_scene.specs.Item.{placed_data}
use Rattle.tui_panes_lib.proofs.ReplacedLeaf.{kept_there, moved_there, restored}
use Rattle.tui_panes_lib.proofs.drawing.redraw.Goals as goal

pub returns-in-Ok-clause-state : goal.returns-in-Ok-clause-state
returns-in-Ok-clause-state c =
    moved_there c.args.scene.now c.replace-old.new.self c.draw_at.new.scene c.args.at (placed_data c.args.placed) c.args.buf.now.area
    c.reset.new.self.area c.requires c.replace-old.ensures.new c.reset.ensures.area c.in-Ok.ensures.state

pub returns-in-Err-clause-err : goal.returns-in-Err-clause-err
returns-in-Err-clause-err c =
    kept_there c.args.scene.now c.replace-old.new.self c.args.at (placed_data c.args.placed) c.args.buf.now c.reset.new.self c.draw_at.new.buf
    c.requires c.replace-old.ensures.new c.reset.ensures c.in-Err.ensures.err

pub returns-in-Err-clause-err_state : goal.returns-in-Err-clause-err_state
returns-in-Err-clause-err_state c =
    restored c.args.scene.now _ _ _ c.args.at _ _ c.replace-old.ensures.new c.replace-old.ensures.old c.in-Err.ensures.err_state c.replace.ensures.new
