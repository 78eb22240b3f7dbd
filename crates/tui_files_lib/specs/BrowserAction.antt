-- What an event asks a browser to do.
use Rattle.std.specs.Prelude.{ℕ, ◌==◌, Option, None, Some, if◌then◌else◌}
use Rattle.tui_app.specs.declared.app.Flow.{Flow}
use Rattle.tui_app.specs.declared.app.Flow.TheVariants as flows
use Rattle.tui_files_lib.specs.declared.actions.BrowserAction.{BrowserAction}
use Rattle.tui_files_lib.specs.declared.actions.BrowserAction.TheVariants.{Nothing, Quit, Choose, GoIn, GoOut, ToggleHidden, BeginFilter, KeepFilter, DropFilter, Move}
use Rattle.tui_files_lib.specs.declared.actions.ListMotion.TheVariants.{Down, Up, PageDown, PageUp, First, Last}
use Rattle.tui_files_lib.specs.declared.folders.EntryKind.{EntryKind}
use Rattle.tui_files_lib.specs.declared.folders.EntryKind.TheVariants.{Folder, File}
use Rattle.tui_keys.specs.declared.event.Event.{Event}
use Rattle.tui_keys.specs.declared.event.Event.TheVariants as events

-- how a session goes on after Ctrl-L and a tick, which do not concern the browser
abbrev pub flow_if_ignored : Event → Option Flow
flow_if_ignored (events.Ctrl c) = if c == 108 then Some flows.Redraw else None
flow_if_ignored events.Tick = Some flows.Go
flow_if_ignored _ = None

-- how it goes on after an action
abbrev pub flow_after : BrowserAction → Flow
flow_after Quit = flows.Quit
flow_after Choose = flows.Quit
flow_after _ = flows.Go

-- keys that move the selection
abbrev pub moving : Event → BrowserAction
moving events.Down = Move Down
moving events.Up = Move Up
moving events.PageDown = Move PageDown
moving events.PageUp = Move PageUp
moving events.Home = Move First
moving events.End = Move Last
moving _ = Nothing

-- q, a dot, a slash, j and k
abbrev pub letter : ℕ → BrowserAction
letter c =
    if c == 113 then Quit
    else if c == 46 then ToggleHidden
    else if c == 47 then BeginFilter
    else if c == 106 then Move Down
    else if c == 107 then Move Up
    else Nothing

-- Enter, by what the selected name leads to, if a name is selected
abbrev pub entered : Option EntryKind → BrowserAction
entered (Some File) = Choose
entered (Some Folder) = GoIn
entered None = Nothing

-- while the list is browsed
abbrev pub browsed : Option EntryKind → Event → BrowserAction
browsed selected (events.Char c) = letter c
browsed selected events.Enter = entered selected
browsed selected events.Left = GoOut
browsed selected events.Backspace = GoOut
browsed selected events.Esc = DropFilter
browsed selected event = moving event

-- while the filter is typed, if the filter does not use the event
abbrev pub typing : Event → BrowserAction
typing events.Enter = KeepFilter
typing events.Esc = DropFilter
typing event = moving event
