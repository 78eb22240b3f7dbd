use Rattle.std.proofs.Common.{FitsSigned, to_z-of_z, w8, w16}
use Rattle.tui_schema.proofs.Dates.{civil}
use Rattle.tui_schema.proofs.kinds.date.civil_date.Goals as goal

pub returns : goal.returns
returns c =
    let year : FitsSigned w16 c.args.year = c.ranges.year in
    let month : FitsSigned w8 c.args.month = c.ranges.month in
    let day : FitsSigned w8 c.args.day = c.ranges.day in
    rw c.ok.ensures.value
    (civil c.args.year c.args.month c.args.day c.new.result (simp to_z-of_z at c.new.ensures.succeeds) (simp to_z-of_z at c.new.ensures.value))
