-- How each event changes a form.
use Rattle.std.specs.Prelude.{◌<◌, ℕ, zero, suc, Bool, true, false, List, [], ◌∷◌, length, slice_get, Option, None, Some, is_some, if◌then◌else◌}
use Rattle.std.specs.List.{position}
use Rattle.std.specs.Option.{option_and_then, option_map_or}
use Rattle.tui_app.specs.declared.app.Flow.{Flow}
use Rattle.tui_app.specs.declared.app.Flow.TheVariants as flows
use Rattle.tui_form_lib.specs.FormAction.{action}
use Rattle.tui_form_lib.specs.Field.{FieldData, is_missing}
use Rattle.tui_form_lib.specs.Form.{FormData}
use Rattle.tui_form_lib.specs.Value.{is_empty_value, place_before, place_after, value_after, value_takes}
use Rattle.tui_form_lib.specs.declared.actions.FormAction.{FormAction}
use Rattle.tui_form_lib.specs.declared.actions.FormAction.TheVariants as actions
use Rattle.tui_form_lib.specs.declared.form.Outcome.TheVariants as outcomes
use Rattle.tui_keys.specs.declared.event.Event.{Event}
use Rattle.tui_keys.specs.declared.event.Event.TheVariants as events

-- ---- the focused field

-- a list with the element at an index changed, if there is one
abbrev pub changed_at : {A : Type 0} → (A → A) → ℕ → List A → List A
changed_at change place [] = []
changed_at change zero (x ∷ xs) = change x ∷ xs
changed_at change (suc place) (x ∷ xs) = x ∷ changed_at change place xs

-- a field that has taken an event
abbrev pub field_after : Event → FieldData → FieldData
field_after event f = record f { value = value_after f.value event }

-- the focused field uses an event
abbrev pub takes : FormData → Event → Bool
takes f event = option_map_or (λ field. value_takes field.value event) (slice_get f.fields f.focus) false

-- a field is no longer marked once it is not empty
abbrev pub still_reported : List FieldData → Option ℕ → Option ℕ
still_reported fields reported =
    option_and_then (λ place. if option_map_or (λ field. is_empty_value field.value) (slice_get fields place) false then Some place else None) reported

-- a form whose focused field has taken an event
abbrev pub taken : FormData → Event → FormData
taken f event = let fields = changed_at (field_after event) f.focus f.fields in
    record f { fields = fields; reported = still_reported fields f.reported }

-- ---- the other events

-- the first field that is needed and empty
abbrev pub first_missing : List FieldData → Option ℕ
first_missing fields = position is_missing fields

-- such a field gets the focus and is marked; if there is none the form is accepted
abbrev pub accepting : FormData → Option ℕ → FormData
accepting f (Some place) = record f { focus = place; reported = Some place }
accepting f None = record f { outcome = outcomes.Accepted }

-- a form after an action
abbrev pub performed : FormData → FormAction → FormData
performed f actions.Nothing = f
performed f actions.Next = record f { focus = place_after (length f.fields) (Some f.focus) }
performed f actions.Previous = record f { focus = place_before (length f.fields) (Some f.focus) }
performed f actions.Accept = accepting f (first_missing f.fields)
performed f actions.Leave = record f { outcome = outcomes.Left }
performed f actions.Redraw = f
performed f actions.Skip = record f { is_skipping = true }

-- and how the session goes on
abbrev pub flow_for : FormData → FormAction → Flow
flow_for f actions.Accept = if is_some (first_missing f.fields) then flows.Go else flows.Quit
flow_for f actions.Leave = flows.Quit
flow_for f actions.Redraw = flows.Redraw
flow_for f _ = flows.Go

-- a paste is ignored up to its end
abbrev pub still_skipping : Bool → Event → Bool
still_skipping is_skipping events.PasteEnd = false
still_skipping is_skipping _ = is_skipping

abbrev pub skipped : FormData → Event → FormData
skipped f event = record f { is_skipping = still_skipping f.is_skipping event }

-- Esc is also the last key after a tick or a new size
abbrev pub escaped_after : Bool → Event → Bool
escaped_after is_escaped events.Esc = true
escaped_after is_escaped events.Tick = is_escaped
escaped_after is_escaped (events.Resize width height) = is_escaped
escaped_after is_escaped _ = false

-- ---- all of them

-- a form after an event: a paste is ignored, and any other event is offered to the focused field first
abbrev pub after_event : FormData → Event → FormData
after_event f event = record (
    if f.is_skipping then skipped f event
    else if takes f event then taken f event
    else performed f (action f.is_escaped event)
    ) { is_escaped = escaped_after f.is_escaped event }

-- and how the session goes on
abbrev pub flow_after : FormData → Event → Flow
flow_after f event =
    if f.is_skipping then flows.Go
    else if takes f event then flows.Go
    else flow_for f (action f.is_escaped event)

-- if there are fields, one of them has the focus
abbrev pub IsFocused : FormData → Type 0
IsFocused f = 0 < length f.fields → f.focus < length f.fields
