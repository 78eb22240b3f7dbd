use Rattle.std.proofs.Common.{◌≡◌, map, take}
use Rattle.tui_pages_lib.specs.Heights.{heights_of}
use Rattle.tui_pages_lib.specs.Report.{cells_of}
use Rattle.tui_clusters.specs.Width.{saturated}
use Rattle.tui_pages_lib.proofs.measuring.heights.Given as goal

abbrev pub invariant-records : goal.invariant-records
invariant-records l = l.heights.items ≡ map saturated (heights_of l.places (map cells_of (take l.i l.records)))
