use Rattle.std.proofs.Common.{◌≡◌, map, drop, max}
use Rattle.std.specs.Prelude.{fold}
use Rattle.tui_pages_lib.specs.Heights.{record_height}
use Rattle.tui_pages_lib.specs.Report.{cells_of}
use Rattle.tui_clusters.specs.Width.{saturated}
use Rattle.tui_pages_lib.proofs.Measured.{cut_counts}
use Rattle.tui_pages_lib.proofs.measuring.record_height.Given as goal

abbrev pub invariant-cells : goal.invariant-cells
invariant-cells l = fold max l.height (cut_counts (drop l.i l.places) (drop l.i (map (λ cell. cell.now) l.cells)))
    ≡ saturated (record_height l.places (cells_of l.entry))
