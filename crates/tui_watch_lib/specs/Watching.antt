-- What a dashboard does.
use Rattle.std.specs.Prelude.{◌≡◌, ⊤, false}
use Rattle.tui_app.specs.Behaviour.{Behaviour}
use Rattle.tui_watch_lib.specs.Watch.{flow_of, paused_after, reads}
use Rattle.tui_watch_lib.specs.declared.watch.Watch.{Watch}

-- What is proved of a dashboard: how the session goes on, and whether it is paused. The machine stays the same, and the
-- measurements change only by an event that reads the machine.
abbrev pub watching : (M : Type 0) → Behaviour (Watch M)
watching M = record {
  steps = λ old event new flow. (flow ≡ flow_of event) × (new.paused ≡ paused_after old.paused event) × (new.machine ≡ old.machine)
      × (reads old.paused event ≡ false → (new.reading ≡ old.reading) × (new.trends ≡ old.trends));
  draws = λ old screen place new. ⊤;
}
