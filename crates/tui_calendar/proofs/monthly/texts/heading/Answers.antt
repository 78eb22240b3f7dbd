use Rattle.std.proofs.Common.{◌≡◌, rules}
use Rattle.tui_calendar.proofs.MonthTexts.{heading_printable}
use Rattle.tui_calendar.specs.Month.{date_data}
use Rattle.tui_calendar.specs.Monthly.{heading_text}
use Rattle.tui_calendar.proofs.monthly.texts.heading.Goals as goal

pub returns-clause-printable : goal.returns-clause-printable
unfolding heading_text
returns-clause-printable c =
    let texts : c.push_str-3.new.self.bytes ≡ heading_text (date_data c.args.date) = search rules in
    rw texts (heading_printable c.args.date)
