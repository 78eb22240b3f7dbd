use Rattle.std.proofs.Common.{arith, map}
use Rattle.tui_pages_lib.specs.Report.{cells_of}
use Rattle.tui_pages_lib.proofs.Known.{row_begun, row_done, row_more}
use Rattle.tui_pages_lib.proofs.starts.add_row.Goals as goal

pub columns-init : goal.columns-init
columns-init c = λ pieces count here last rows. row_begun c.args.places.now (map cells_of c.args.records.now) pieces count _ rows

pub columns-preserved : goal.columns-preserved
columns-preserved c = λ pieces count here last rows.
    row_more c.args.places.now (map cells_of c.args.records.now) pieces count c.args.piece c.args.before c.columns._column c.next_start-start.result
    c.columns.starts.items c.deref.result.now c.push.new.self.items c.columns-test.true here last (c.columns.invariant pieces count here last rows)
    c.deref.ensures.value (c.next_start-start.ensures pieces) c.in_ok-push.ensures.items

pub returns : goal.returns
returns c = λ pieces count here last rows.
    row_done c.args.places.now (map cells_of c.args.records.now) pieces count c.columns._column _ (omega (arith, c.columns-test.false)) (c.columns.invariant pieces count here last rows)
