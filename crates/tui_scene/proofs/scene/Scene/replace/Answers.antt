use Rattle.std.proofs.Common.{◌∙◌, ap, set}
use Rattle.tui_scene.specs.declared.placed.Placed.{Placed}
use Rattle.tui_scene.specs.Item.{placed_data}
use Rattle.tui_scene.proofs.Places.{set_there}
use Rattle.tui_scene.proofs.scene.Scene.replace.Goals as goal

pub returns-clause-new : goal.returns-clause-new
returns-clause-new c =
    set_there placed_data c.self.inside.placed.items c.args.self.now c.args.at c.replace.new.dest c.self.view_is
    ∙ ap (λ (p : Placed). set c.args.self.now c.args.at (placed_data p)) c.replace.ensures.after
