use Rattle.tui_scene.proofs.Freshness.{clip_is_footprint, drawn_is_fresh, order_is_irrelevant, replaced_is_fresh, stays_fresh}
use Rattle.tui_scene.proofs.laws.redraw_laws.Goals as goal

pub returns : goal.returns
returns c = record { clip = clip_is_footprint; order = order_is_irrelevant; first = drawn_is_fresh; replaced = replaced_is_fresh; stays = stays_fresh }
