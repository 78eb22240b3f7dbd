-- The behaviour of an app.
use Rattle.std.specs.Prelude.{Option}
use Rattle.tui_app.specs.declared.app.Flow.{Flow}
use Rattle.tui_cells.specs.Buffer.{Screen}
use Rattle.tui_cells.specs.declared.position.Position.{Position}
use Rattle.tui_keys.specs.declared.event.Event.{Event}

-- `steps`: the app before an event, the event, the app after it, and how it goes on. `draws`: the app, the screen that
-- it draws, the position at which the cursor is shown, and the app after drawing.
pub record Behaviour (A : Type 0) : Type 1 where
  pub steps : A → Event → A → Flow → Type 0
  pub draws : A → Screen → Option Position → A → Type 0
