-- A session of a pager.
use Rattle.std.specs.Prelude.{ℕ, List}
use Rattle.tui_app.specs.Run.{IsAppRun}
use Rattle.tui_app.specs.declared.outcome.AppEnd.{AppEnd}
use Rattle.tui_browse_lib.specs.Paging.{initial_pager_for, paging}
use Rattle.tui_browse_lib.specs.declared.paging.PagerApp.{PagerApp}
use Rattle.tui_cells.specs.Rect.{area_of}
use Rattle.tui_io.specs.Causes.{Observed}
use Rattle.tui_pager_lib.specs.Entry.{EntryData}
use Rattle.tui_system.specs.Setting.{AreSettings}
use Rattle.tui_system.specs.System.{Given}
use Rattle.tui_system.specs.declared.settings.Setting.{Setting}

-- the pager of these entries on a screen of a size
abbrev pub app_of : List EntryData → ℕ → ℕ → PagerApp
app_of entries width height = record { pager = initial_pager_for entries width height }

-- its run on a terminal, whose observable states before and after are `old` and `new`, and how it ended
pub record AreEntriesShown (setting : Setting) (old new : Observed) (entries : List EntryData) (end : AppEnd) : Type 0 where
  pub last : PagerApp
  pub run : IsAppRun paging setting.output (app_of entries setting.size.width setting.size.height)
      (area_of 0 0 setting.size.width setting.size.height) old new last end

-- the same with the settings that a system gives
abbrev pub AreShownOn : Given → Observed → Observed → List EntryData → AppEnd → Type 0
AreShownOn given old new entries end = (setting : Setting) × AreSettings given setting × AreEntriesShown setting old new entries end
