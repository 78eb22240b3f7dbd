use Rattle.std.proofs.Common.{ap, Option, ◌∙◌}
use Rattle.std.specs.Option.{unwrap_or}
use Rattle.tui_cells.specs.declared.style.Style.{Style}
use Rattle.tui_cells.specs.Style.{no_style}
use Rattle.tui_calendar.proofs.Events.{among}
use Rattle.tui_calendar.specs.Month.{date_data}
use Rattle.tui_calendar.proofs.calendar_event_store.CalendarEventStoreDateStyler.get_style.Goals as goal

pub returns-in-Some : goal.returns-in-Some
returns-in-Some c = ap (λ (o : Option Style). unwrap_or o no_style) (c.in-Some.ensures.value ∙ among c.args.self.now.styles (date_data c.args.date))

pub returns-in-None : goal.returns-in-None
returns-in-None c = c.new.ensures ∙ ap (λ (o : Option Style). unwrap_or o no_style) (c.in-None.ensures.value ∙ among c.args.self.now.styles (date_data c.args.date))
