use Rattle.std.proofs.Common.{◌≡◌, ◌-◌, List, ◌++◌}
use Rattle.tui_pages_lib.specs.declared.piece.Piece.{Piece}
use Rattle.tui_pages_lib.specs.Filling.{cut, pages_by}
use Rattle.tui_pages_lib.proofs.filling.Filling.add.Given as goal

abbrev pub invariant-cutting : goal.invariant-cutting
invariant-cutting l = (rest : List Piece)
    → pages_by l.room l.self (cut l.room l.place l.height l.from l.height ++ rest) ≡ pages_by l.room l.fn.self (cut l.room l.place l.height 0 l.height ++ rest)

abbrev pub decreases-cutting : goal.decreases-cutting
decreases-cutting l = l.height - l.from
