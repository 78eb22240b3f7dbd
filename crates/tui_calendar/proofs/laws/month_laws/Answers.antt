use Rattle.tui_calendar.proofs.MonthPlaces.{first_of, month_is}
use Rattle.tui_calendar.specs.Month.{date_data}
use Rattle.tui_calendar.proofs.laws.month_laws.Goals as goal

pub returns : goal.returns
returns c = λ d. month_is (date_data d) (first_of d)
