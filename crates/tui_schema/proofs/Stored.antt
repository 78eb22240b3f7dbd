-- The dates of a store, given the events that were added and those that are still to be added.
use Rattle.std.proofs.Common.{◌≡◌, ℕ, ◌+◌, ◌<◌, ◌≤◌, List, [], ◌∷◌, map, length, get_or, drop, refl, ap, ◌∙◌, add-one}
use Rattle.std.proofs.lemmas.List.{drop_all}
use Rattle.std.proofs.Math.Seq.{drop-cons}
use Rattle.tui_calendar.specs.CalendarEventStore.{DatedStyles, with_date}
use Rattle.tui_calendar.specs.Month.{date_data}
use Rattle.tui_schema.specs.declared.kinds.event.StyledDate.{StyledDate}
use Rattle.tui_schema.specs.Kinds.StyledDate.{event_data, with_events}

-- adding the events from number i on to these dates gives the dates of all events
pub record AreStored (dates : DatedStyles) (events : List StyledDate) (i : ℕ) : Type 0 where
  pub rest : with_events dates (map event_data (drop i events)) ≡ with_events [] (map event_data events)

pub none_stored : (dates : DatedStyles) (events : List StyledDate) → dates ≡ [] → AreStored dates events 0
none_stored dates events e = record { rest = ap (λ (ds : DatedStyles). with_events ds (map event_data events)) e }

pub one_more : (dates now : DatedStyles) (events : List StyledDate) (i : ℕ) (e : StyledDate) → i < length events → e ≡ get_or events i e →
    now ≡ with_date dates (date_data e.date) e.style → AreStored dates events i → AreStored now events (i + 1)
one_more dates now events i e lt at added stored = record {
  rest =
      let here : drop i events ≡ e ∷ drop (i + 1) events = rw (add-one, drop-cons events i e lt, ← at) refl in
      let before : with_events (with_date dates (date_data e.date) e.style) (map event_data (drop (i + 1) events)) ≡ with_events [] (map event_data events) =
      rw here at stored.rest in
      ap (λ (ds : DatedStyles). with_events ds (map event_data (drop (i + 1) events))) added ∙ before;
}

pub all_stored : (dates : DatedStyles) (events : List StyledDate) (i : ℕ) → length events ≤ i → AreStored dates events i →
    dates ≡ with_events [] (map event_data events)
all_stored dates events i le stored = rw (drop_all i events le) at stored.rest
