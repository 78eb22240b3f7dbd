use Rattle.std.proofs.Common.{Err, ap, sym}
use Rattle.tui_table.specs.Widths.{first_above_100}
use Rattle.tui_table.specs.declared.widths_error.WidthsError.TheVariants as refusals
use Rattle.tui_schema.proofs.TableWidths.{all_taken}
use Rattle.tui_schema.proofs.items.table.in_widths.Goals as goal

pub returns-in-Ok : goal.returns-in-Ok
returns-in-Ok c =
    rw c.in-Ok.ensures.ok
    (all_taken c.args.item (first_above_100 c.args.widths.items) _ c.in-Ok.table refusals.PercentageAbove100 (λ index e. (c.in-Ok.ensures.rejected index).1 e))

pub returns-in-Err-PercentageAbove100 : goal.returns-in-Err-PercentageAbove100
returns-in-Err-PercentageAbove100 c =
    let rejected = c.in-Err-PercentageAbove100 in
    rw ((rejected.ensures.rejected rejected.field-0-0).0 (ap Err rejected.field-0-is)) (ap Err (sym c.refusal.ensures))
