-- What a session of a browser shows.
use Rattle.std.specs.Prelude.{◌≡◌, ℕ, ◌<◌, true, false, List, length, Option, Some}
use Rattle.tui_app.specs.Behaviour.{Behaviour}
use Rattle.tui_app.specs.EventLoop.{LoopState}
use Rattle.tui_app.specs.Session.{Session}
use Rattle.tui_app.specs.TooSmall.{DrawsTooSmall}
use Rattle.tui_app.specs.declared.app.Flow.{Flow}
use Rattle.tui_app_laws.specs.Showing.{IsPresent}
use Rattle.tui_cells.specs.Buffer.{Screen, cell_at}
use Rattle.tui_cells.specs.Cell.{blank}
use Rattle.tui_cells.specs.Layers.{layers_at}
use Rattle.tui_cells.specs.Rect.{covers}
use Rattle.tui_cells.specs.declared.position.Position.{Position}
use Rattle.tui_cells.specs.declared.rect.Rect.{Rect}
use Rattle.tui_files_lib.specs.Browsing.{Lists, Steps, flow_of}
use Rattle.tui_files_lib.specs.Drawing.{BrowserDraws, ShowsCursor, has_room, names_area, names_list}
use Rattle.tui_files_lib.specs.declared.browser.Browser.{Browser}
use Rattle.tui_files_lib.specs.declared.files.FilesApp.{FilesApp}
use Rattle.tui_frames.specs.InBlock.{inner_of}
use Rattle.tui_lists.specs.List.{IsSeen}
use Rattle.tui_lists.specs.ListItem.{heights_of}
use Rattle.tui_lists.specs.ListStrokes.{list_layers}
use Rattle.tui_keys.specs.declared.event.Event.{Event}
use Rattle.tui_terminal_model.specs.declared.output.Output.{Output}

-- how an app's browser responds to an event; its folders stay the same
pub record AppSteps {F : Type 0} (lists : F → Lists) (old : FilesApp F) (event : Event) (new : FilesApp F) (flow : Flow) : Type 0 where
  pub goes_on : flow ≡ flow_of old.browser event
  pub steps : Steps (lists old.folders) old.browser event new.browser
  pub folders : new.folders ≡ old.folders

-- they also stay the same when it draws
pub record AppDraws {F : Type 0} (old : FilesApp F) (screen : Screen) (place : Option Position) (new : FilesApp F) : Type 0 where
  pub draws : BrowserDraws old.browser screen place new.browser
  pub folders : new.folders ≡ old.folders

-- how a browser responds to events, and what it draws, given what folders may be read as
abbrev pub files : (F : Type 0) → (F → Lists) → Behaviour (FilesApp F)
files F lists = record {
  steps = λ old event new flow. AppSteps lists old event new flow;
  draws = λ old screen place new. AppDraws old screen place new;
}

-- The left half of the screen shows the list of the names on blank cells. If there are names, one of them is selected.
-- It is among the rows that the list draws from its offset on, and these fit the list's height.
pub record NamesAreSeen (b : Browser) (screen : Screen) : Type 0 where
  pub cells : (x y : ℕ) → covers (names_area screen.area) x y ≡ true →
      cell_at screen x y ≡ Some (layers_at (list_layers (names_list b) b.state (names_area screen.area)) x y blank)
  pub selected : 0 < length b.rows.items → (place : ℕ) × (b.state.selected ≡ Some place)
      × IsSeen (heights_of (names_list b).items) (inner_of (names_list b).block (names_area screen.area)).height b.state.offset place

-- The terminal shows the screen that was drawn last. If that screen has room, it shows the names, and the cursor of the
-- filter while it is typed. Otherwise it shows `too small`.
pub record IsOnScreen {F : Type 0} (lists : F → Lists) (o : Output) (begin : FilesApp F) (area : Rect)
    (state : LoopState (FilesApp F)) (reads : List (List ℕ))
    (sent : List ℕ) : Type 0 where
  pub present : IsPresent (files F lists) o begin area state reads sent
  pub names : has_room state.screen.area ≡ true → NamesAreSeen state.app.browser state.screen
  pub cursor : has_room state.screen.area ≡ true → state.app.browser.is_typing ≡ true →
      ShowsCursor state.app.browser.filter_text state.screen state.place
  pub other : has_room state.screen.area ≡ false → DrawsTooSmall state.screen

-- holds whenever a session of a browser waits for input
abbrev pub NamesAreShown : (F : Type 0) → (F → Lists) → Output → Type 0
NamesAreShown F lists o = (begin : FilesApp F) (area : Rect) (state : LoopState (FilesApp F)) (reads : List (List ℕ)) (trace sent : List ℕ) →
    Session (files F lists) o begin area state reads trace sent → IsOnScreen lists o begin area state reads sent
