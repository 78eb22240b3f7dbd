-- What an event asks a pager to do.
use Rattle.std.specs.Prelude.{ℕ, ◌-◌, ◌==◌, ◌&&◌, Bool, nat_lt, List, [], ◌∷◌, replicate, if◌then◌else◌}
use Rattle.tui_app.specs.declared.app.Flow.{Flow}
use Rattle.tui_app.specs.declared.app.Flow.TheVariants as flows
use Rattle.tui_browse_lib.specs.declared.actions.PagerAction.{PagerAction}
use Rattle.tui_browse_lib.specs.declared.actions.PagerAction.TheVariants.{Nothing, Quit, Redraw, Press, PressPerRow, Size}
use Rattle.tui_keys.specs.declared.event.Event.{Event}
use Rattle.tui_keys.specs.declared.event.Event.TheVariants as events
use Rattle.tui_pager_lib.specs.Laws.{Call, press, resize}
use Rattle.tui_pager_lib.specs.Pager.{PagerData}
use Rattle.tui_pager_lib.specs.declared.key.Key.TheVariants as keys

-- q, j, k, J, K and the space bar
abbrev pub letter : ℕ → PagerAction
letter c =
    if c == 113 then Quit
    else if c == 106 then Press keys.Down
    else if c == 107 then Press keys.Up
    else if c == 74 then Press keys.LineDown
    else if c == 75 then Press keys.LineUp
    else if c == 32 then PressPerRow keys.LineDown
    else Nothing

-- Ctrl-L
abbrev pub ctrl_action : ℕ → PagerAction
ctrl_action c = if c == 108 then Redraw else Nothing

abbrev pub action : Event → PagerAction
action (events.Char c) = letter c
action (events.Ctrl c) = ctrl_action c
action events.Up = Press keys.Up
action events.Down = Press keys.Down
action events.PageUp = Press keys.PageUp
action events.PageDown = Press keys.PageDown
action events.Home = Press keys.First
action events.End = Press keys.Last
action events.Backspace = PressPerRow keys.LineUp
action (events.Resize width height) = Size width height
action _ = Nothing

abbrev pub flow_of : PagerAction → Flow
flow_of Quit = flows.Quit
flow_of Redraw = flows.Redraw
flow_of _ = flows.Go

-- whether a screen has room for a pager: at least 12 columns and 5 rows
abbrev pub has_room : ℕ → ℕ → Bool
has_room width height = nat_lt 11 width && nat_lt 4 height

-- a new size is taken if it has room for a pager
abbrev pub size_calls : ℕ → ℕ → List Call
size_calls width height = if has_room width height then resize width height ∷ [] else []

-- the calls of a pager that an event asks for; `PressPerRow` presses a key once for each row that the body has inside its
-- borders
abbrev pub calls_for : PagerAction → PagerData → List Call
calls_for (Press key) p = press key ∷ []
calls_for (PressPerRow key) p = replicate (p.height - 3) (press key)
calls_for (Size width height) p = size_calls width height
calls_for _ p = []
