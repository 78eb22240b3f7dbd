-- The value of a field, and how each event changes it.
use Rattle.std.specs.Prelude.{
  ℕ,
  ◌+◌,
  ◌-◌,
  ◌==◌,
  ◌&&◌,
  Bool,
  false,
  not,
  nat_lt,
  List,
  length,
  map,
  slice_get,
  string_bytes,
  Option,
  None,
  Some,
  is_none,
  is_some,
  if◌then◌else◌,
}
use Rattle.std.specs.Option.{option_and_then, option_or}
use Rattle.tui_form_lib.specs.declared.value.Value.{Value}
use Rattle.tui_form_lib.specs.declared.value.Value.TheVariants as values
use Rattle.tui_input.specs.State.{TypedText, text_of}
use Rattle.tui_input.specs.Taking.{is_handled, after_event}
use Rattle.tui_keys.specs.declared.event.Event.{Event}
use Rattle.tui_keys.specs.declared.event.Event.TheVariants as events

-- a value as plain data: a text, masked or not; a choice among texts by an index; a box that is checked or not
pub data ValueData : Type 0 where
  typed_value : TypedText → Bool → ValueData
  choice : List (List ℕ) → Option ℕ → ValueData
  check : Bool → ValueData

-- a value of the code as plain data
abbrev pub value_data : Value → ValueData
value_data (values.Text input is_masked) = typed_value input is_masked
value_data (values.Choice texts chosen) = choice (map string_bytes texts.items) chosen
value_data (values.Check is_on) = check is_on

-- the chosen text: none if there is no index, or one past the texts
abbrev pub chosen_text : List (List ℕ) → Option ℕ → Option (List ℕ)
chosen_text texts chosen = option_and_then (slice_get texts) chosen

-- nothing is filled in
abbrev pub is_empty_value : ValueData → Bool
is_empty_value (typed_value text is_masked) = length (text_of text) == 0
is_empty_value (choice texts chosen) = is_none (chosen_text texts chosen)
is_empty_value (check is_on) = not is_on

-- ---- indices below `count` that wrap around

-- the next index; 0 after None and after the last
abbrev pub place_after : ℕ → Option ℕ → ℕ
place_after count None = 0
place_after count (Some place) = if nat_lt place (count - 1) then place + 1 else 0

-- the previous index; the last one before None, before 0, and before an index that is not below `count`
abbrev pub place_before : ℕ → Option ℕ → ℕ
place_before count None = count - 1
place_before count (Some place) = if nat_lt 0 place && nat_lt place count then place - 1 else count - 1

-- ---- events

-- a space
abbrev pub is_blank : Event → Bool
is_blank (events.Char c) = c == 32
is_blank _ = false

-- the index below `count` that an event chooses, if it chooses one
abbrev pub chosen_by : ℕ → Option ℕ → Event → Option ℕ
chosen_by count chosen events.Left = Some (place_before count chosen)
chosen_by count chosen events.Right = Some (place_after count chosen)
chosen_by count chosen events.Home = Some 0
chosen_by count chosen events.End = Some (count - 1)
chosen_by count chosen (events.Char c) = if c == 32 then Some (place_after count chosen) else None
chosen_by count chosen _ = None

-- a value uses an event
abbrev pub value_takes : ValueData → Event → Bool
value_takes (typed_value text is_masked) event = is_handled text event
value_takes (choice texts chosen) event = is_some (chosen_by (length texts) chosen event)
value_takes (check is_on) event = is_blank event

-- a value after an event
abbrev pub value_after : ValueData → Event → ValueData
value_after (typed_value text is_masked) event = typed_value (after_event text event) is_masked
value_after (choice texts chosen) event = choice texts (option_or (chosen_by (length texts) chosen event) chosen)
value_after (check is_on) event = check (if is_blank event then not is_on else is_on)
