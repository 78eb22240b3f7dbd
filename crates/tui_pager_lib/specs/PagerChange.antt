-- What a call changes.
use Rattle.std.specs.Prelude.{◌≡◌, ℕ, List, Option, None, Some, Vec}
use Rattle.std.specs.Global.{Global}
use Rattle.tui_pager_lib.specs.Laws.{IsSoundPager}
use Rattle.tui_pager_lib.specs.Lines.{HaveLineStarts}
use Rattle.tui_pager_lib.specs.Pager.{PagerData}
use Rattle.tui_pager_lib.specs.declared.change.PagerChange.{PagerChange}

-- the pager after a change
abbrev pub changed : PagerData → PagerChange → PagerData
changed p c = record { width = c.size.width; height = c.size.height; entries = p.entries; state = c.state }

-- the new offsets, or the stored ones if there are none
abbrev pub line_starts_after : List ℕ → Option (Vec ℕ Global) → List ℕ
line_starts_after kept None = kept
line_starts_after kept (Some line_starts) = line_starts.items

-- New offsets are those of the lines of a selected body at a width. If there are none, the body and the width are
-- unchanged.
abbrev pub BringsLineStarts : PagerData → ℕ → Option ℕ → Option (Vec ℕ Global) → Type 0
BringsLineStarts p width selected None = (width ≡ p.width) × (selected ≡ p.state.selected)
BringsLineStarts p width selected (Some line_starts) = HaveLineStarts p.entries width selected line_starts.items

-- the next state is sound, and its offsets are those of its body
pub record IsChange (p : PagerData) (c : PagerChange) : Type 0 where
  pub sound : IsSoundPager (changed p c)
  pub line_starts : BringsLineStarts p c.size.width c.state.selected c.line_starts
