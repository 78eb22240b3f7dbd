-- The offsets after a change.
use Rattle.std.proofs.Common.{ℕ, List, Option, None, Some, Vec, Global}
use Rattle.tui_pager_lib.specs.PagerChange.{BringsLineStarts, line_starts_after}
use Rattle.tui_pager_lib.specs.Lines.{HaveLineStarts}
use Rattle.tui_pager_lib.specs.Pager.{PagerData}
use Rattle.tui_pager_lib.proofs.Stepping.{line_starts_as}

-- the stored offsets, or the new ones, are those of the body that is selected next
pub have_after : (p : PagerData) (width : ℕ) (selected : Option ℕ) (kept : List ℕ) (line_starts : Option (Vec ℕ Global)) →
    HaveLineStarts p.entries p.width p.state.selected kept → BringsLineStarts p width selected line_starts →
    HaveLineStarts p.entries width selected (line_starts_after kept line_starts)
have_after p width selected kept None have same = line_starts_as p.entries width p.width selected p.state.selected kept same.0 same.1 have
have_after p width selected kept (Some line_starts) have brought = brought
