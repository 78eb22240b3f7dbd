-- What the terminal shows while a file is browsed.
use Rattle.std.specs.Prelude.{ℕ, List}
use Rattle.tui_app.specs.EventLoop.{LoopState}
use Rattle.tui_app.specs.Run.{HasStopped}
use Rattle.tui_app.specs.Session.{Session}
use Rattle.tui_app.specs.declared.outcome.AppEnd.{AppEnd}
use Rattle.tui_browse_lib.specs.Laws.{IsOnScreen}
use Rattle.tui_browse_lib.specs.Paging.{paging}
use Rattle.tui_browse_lib.specs.declared.paging.PagerApp.{PagerApp}
use Rattle.tui_browse_run.specs.Shown.{app_of}
use Rattle.tui_cells.specs.Rect.{area_of}
use Rattle.tui_pager_lib.specs.Entry.{EntryData}
use Rattle.tui_terminal_model.specs.declared.output.Output.{Output}

-- Whenever the session of a run waits for input, its pager is on the terminal. The same holds where the session
-- stopped, for its last state.
pub record BrowsingIsShown (o : Output) : Type 0 where
  pub waiting : (entries : List EntryData) (width height : ℕ) (state : LoopState PagerApp) (reads : List (List ℕ)) (trace sent : List ℕ) →
      Session paging o (app_of entries width height) (area_of 0 0 width height) state reads trace sent →
      IsOnScreen o (app_of entries width height) (area_of 0 0 width height) state reads sent
  pub stopped : (entries : List EntryData) (width height : ℕ) (last : PagerApp) (end : AppEnd) (trace : List ℕ) (before now : ℕ) →
      (stop : HasStopped paging o (app_of entries width height) (area_of 0 0 width height) last end trace before now) →
      IsOnScreen o (app_of entries width height) (area_of 0 0 width height) stop.state stop.reads stop.sent
