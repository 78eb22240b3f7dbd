-- How a dashboard responds to an event.
use Rattle.std.specs.Prelude.{◌==◌, Bool, false, not, if◌then◌else◌}
use Rattle.tui_app.specs.declared.app.Flow.{Flow}
use Rattle.tui_app.specs.declared.app.Flow.TheVariants as flows
use Rattle.tui_keys.specs.declared.event.Event.{Event}
use Rattle.tui_keys.specs.declared.event.Event.TheVariants as events

-- how the session goes on: q quits, and Ctrl-L sends the whole screen again (113 and 108 are the codes of these
-- letters)
abbrev pub flow_of : Event → Flow
flow_of (events.Char c) = if c == 113 then flows.Quit else flows.Go
flow_of (events.Ctrl c) = if c == 108 then flows.Redraw else flows.Go
flow_of event = flows.Go

-- whether it is paused: p pauses and resumes (112 is its code)
abbrev pub paused_after : Bool → Event → Bool
paused_after paused (events.Char c) = if c == 112 then not paused else paused
paused_after paused event = paused

-- whether the machine is read: at a tick, unless it is paused
abbrev pub reads : Bool → Event → Bool
reads paused events.Tick = not paused
reads paused event = false
