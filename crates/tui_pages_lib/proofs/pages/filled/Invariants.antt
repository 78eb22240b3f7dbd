use Rattle.std.proofs.Common.{◌≡◌, drop}
use Rattle.tui_pages_lib.specs.Filling.{pages_by, pages_of, pieces_from}
use Rattle.tui_pages_lib.proofs.pages.filled.Given as goal

abbrev pub invariant-filling : goal.invariant-filling
invariant-filling l = pages_by l.room l.filling (pieces_from l.room l.place (drop l.place l.heights)) ≡ pages_of l.heights l.room
