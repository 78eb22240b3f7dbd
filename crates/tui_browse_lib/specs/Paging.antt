-- The pager as an app.
use Rattle.std.specs.Prelude.{◌≡◌, ◌≢◌, ◌≤◌, ℕ, List, None, if◌then◌else◌}
use Rattle.tui_app.specs.Behaviour.{Behaviour}
use Rattle.tui_app.specs.TooSmall.{DrawsTooSmall}
use Rattle.tui_browse_lib.specs.PagerAction.{action, calls_for, flow_of, has_room}
use Rattle.tui_browse_lib.specs.declared.paging.PagerApp.{PagerApp}
use Rattle.tui_cells.specs.Buffer.{Screen}
use Rattle.tui_pager_lib.specs.Entry.{EntryData}
use Rattle.tui_pager_lib.specs.Laws.{after_calls, initial_pager}
use Rattle.tui_pager_lib.specs.Pager.{PagerData}
use Rattle.tui_pager_lib.specs.Screen.{IsDrawnOnBlank, page_area, pager_layers}

-- a pager of a size at the start; a size that is too small is replaced by the least one
abbrev pub initial_pager_for : List EntryData → ℕ → ℕ → PagerData
initial_pager_for entries width height = if has_room width height then initial_pager entries width height else initial_pager entries 12 5

-- a pager's screen
abbrev pub IsPage : PagerData → Screen → Type 0
IsPage p screen = IsDrawnOnBlank (pager_layers p) (page_area p.width p.height) screen

-- A screen that has the pager's area shows the pager; any other shows `too small`. The pager's width and height are
-- such as a screen can have.
pub record PagerDraws (p : PagerData) (screen : Screen) : Type 0 where
  pub wide : p.width ≤ 65535
  pub high : p.height ≤ 65535
  pub page : screen.area ≡ page_area p.width p.height → IsPage p screen
  pub other : screen.area ≢ page_area p.width p.height → DrawsTooSmall screen

-- how the app responds to events, and what it draws; it hides the cursor
abbrev pub paging : Behaviour PagerApp
paging = record {
  steps = λ old event new flow. (new.pager ≡ after_calls old.pager (calls_for (action event) old.pager)) × (flow ≡ flow_of (action event));
  draws = λ old screen place new. (new.pager ≡ old.pager) × (place ≡ None) × PagerDraws old.pager screen;
}
