-- What an event asks a form to do, if the focused field does not use the event.
use Rattle.std.specs.Prelude.{ℕ, ◌==◌, Bool, if◌then◌else◌}
use Rattle.tui_form_lib.specs.declared.actions.FormAction.{FormAction}
use Rattle.tui_form_lib.specs.declared.actions.FormAction.TheVariants.{Nothing, Next, Previous, Accept, Leave, Redraw, Skip}
use Rattle.tui_keys.specs.declared.event.Event.{Event}
use Rattle.tui_keys.specs.declared.event.Event.TheVariants as events

-- Ctrl-C and Ctrl-L
abbrev pub ctrl_action : ℕ → FormAction
ctrl_action c = if c == 99 then Leave else if c == 108 then Redraw else Nothing

-- depends on whether the last key was Esc
abbrev pub action : Bool → Event → FormAction
action is_escaped events.Tab = Next
action is_escaped events.Down = Next
action is_escaped events.BackTab = Previous
action is_escaped events.Up = Previous
action is_escaped events.Enter = Accept
action is_escaped events.Esc = if is_escaped then Leave else Nothing
action is_escaped (events.Ctrl c) = ctrl_action c
action is_escaped events.PasteBegin = Skip
action is_escaped _ = Nothing
