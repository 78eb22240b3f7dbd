use Rattle.std.proofs.Common.{◌≡◌, take}
use Rattle.tui_cells.proofs.row.cells.are_same.Given as goal

-- the cells so far are the same
abbrev pub invariant-places : goal.invariant-places
invariant-places l = take l.place l.one ≡ take l.place l.other
