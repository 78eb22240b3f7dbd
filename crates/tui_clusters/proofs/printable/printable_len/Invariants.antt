use Rattle.std.proofs.Common.{◌≡◌, true, take}
use Rattle.std.specs.List.{list_all}
use Rattle.tui_clusters.specs.Printable.{is_printable}
use Rattle.tui_clusters.proofs.printable.printable_len.Given as goal

abbrev pub invariant-bytes : goal.invariant-bytes
invariant-bytes l = list_all is_printable (take l.i l.bytes) ≡ true
