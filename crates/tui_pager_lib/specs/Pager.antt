-- A pager as plain data.
use Rattle.std.specs.Prelude.{ℕ, List}
use Rattle.tui_pager_lib.specs.Entry.{EntryData}
use Rattle.tui_pager_lib.specs.declared.state.PagerState.{PagerState}

-- a pager as plain data
pub record PagerData : Type 0 where
  pub width : ℕ
  pub height : ℕ
  pub entries : List EntryData
  pub state : PagerState
