use Rattle.std.proofs.Common.{FitsSigned, w32}
use Rattle.std.proofs.lemmas.Int.{to_z-of_z}
use Rattle.tui_calendar.proofs.MonthPlaces.{first_of, place_found}
use Rattle.tui_calendar.proofs.month.place.Goals as goal

pub returns : goal.returns
returns c =
    let fits : FitsSigned w32 c.args.start = c.ranges.start in
    let here = simp to_z-of_z at c.day_at.ensures in
    place_found _ c.args.i _ (first_of c.args.date) c.requires.inside (rw c.requires.start at here)
