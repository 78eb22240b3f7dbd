use Rattle.std.proofs.Common.{◌∙◌, ap, map, max}
use Rattle.std.specs.Prelude.{fold}
use Rattle.tui_pages_lib.specs.Report.{cells_of}
use Rattle.tui_pages_lib.proofs.Measured.{cut_counts, height_begun, height_done, height_more}
use Rattle.tui_pages_lib.proofs.measuring.record_height.Goals as goal

pub cells-init : goal.cells-init
cells-init c =
    ap (λ cs. fold max 1 (cut_counts c.args.places.now (map (λ cell. cell.now) cs))) c.as_slice-cells.ensures.value
    ∙ height_begun c.args.places.now (cells_of c.args.entry.now)

pub cells-preserved : goal.cells-preserved
cells-preserved c =
    height_more (λ cell. cell.now) c.args.places.now c.as_slice-cells.result.now c.cells.i _ c.cells.height _ _ _ _ _
    c.min-i-end.ensures c.cells-test.true c.in_ok-count.ensures c.max-height.ensures c.cells.invariant

pub returns : goal.returns
returns c =
    height_done (λ cell. cell.now) c.args.places.now c.as_slice-cells.result.now c.cells.i _ c.cells.height _
    c.min-i-end.ensures c.cells-test.false c.cells.invariant
