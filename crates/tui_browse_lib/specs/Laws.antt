-- What a session of a pager shows.
use Rattle.std.specs.Prelude.{◌≡◌, ℕ, true, false, List}
use Rattle.tui_app.specs.EventLoop.{LoopState}
use Rattle.tui_app.specs.Session.{Session}
use Rattle.tui_app.specs.TooSmall.{DrawsTooSmall}
use Rattle.tui_app_laws.specs.Showing.{IsPresent}
use Rattle.tui_browse_lib.specs.PagerAction.{has_room}
use Rattle.tui_browse_lib.specs.Paging.{IsPage, initial_pager_for, paging}
use Rattle.tui_browse_lib.specs.declared.paging.PagerApp.{PagerApp}
use Rattle.tui_cells.specs.Rect.{area_of}
use Rattle.tui_cells.specs.declared.rect.Rect.{Rect}
use Rattle.tui_pager_lib.specs.Entry.{EntryData}
use Rattle.tui_pager_lib.specs.Laws.{IsSoundPager, ShowsSelected}
use Rattle.tui_terminal_model.specs.declared.output.Output.{Output}

-- The terminal shows the screen that was drawn last. If that screen has room for a pager it is the pager's: the list
-- draws the selected entry if its title has at most as many lines as the list has rows. If it has none, the screen
-- shows `too small`.
pub record IsOnScreen (o : Output) (begin : PagerApp) (area : Rect) (state : LoopState PagerApp)
    (reads : List (List ℕ)) (sent : List ℕ) : Type 0 where
  pub present : IsPresent paging o begin area state reads sent
  pub sound : IsSoundPager state.app.pager
  pub visible : ShowsSelected state.app.pager
  pub page : has_room state.screen.area.width state.screen.area.height ≡ true → IsPage state.app.pager state.screen
  pub small : has_room state.screen.area.width state.screen.area.height ≡ false → DrawsTooSmall state.screen

-- holds whenever a session of a pager waits for input
abbrev pub PagerIsShown : Output → Type 0
PagerIsShown o = (entries : List EntryData) (width height : ℕ) (begin : PagerApp) (state : LoopState PagerApp)
    (reads : List (List ℕ)) (trace sent : List ℕ) →
    begin.pager ≡ initial_pager_for entries width height → Session paging o begin (area_of 0 0 width height) state reads trace sent →
    IsOnScreen o begin (area_of 0 0 width height) state reads sent
