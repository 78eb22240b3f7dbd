-- What a pager stores of its view.
use Rattle.std.specs.Prelude.{List}
use Rattle.tui_pager_lib.specs.Entry.{EntryData}
use Rattle.tui_pager_lib.specs.Laws.{IsSoundPager}
use Rattle.tui_pager_lib.specs.Lines.{HaveLineStarts}
use Rattle.tui_pager_lib.specs.Pager.{PagerData}
use Rattle.tui_pager_lib.specs.declared.shown.ViewState.{ViewState}

-- the stored view with the entries, as plain data
abbrev pub pager_data : List EntryData → ViewState → PagerData
pager_data entries s = record { width = s.size.width; height = s.size.height; entries = entries; state = s.state }

-- the state is sound, and the offsets are those of the selected body's lines
pub record IsUpToDate (entries : List EntryData) (s : ViewState) : Type 0 where
  pub sound : IsSoundPager (pager_data entries s)
  pub line_starts : HaveLineStarts entries s.size.width s.state.selected s.line_starts.items
