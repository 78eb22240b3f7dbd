use Rattle.tui_pages_run.proofs.refusal.write_refusal.Goals as goal

pub returns-in-TooTall : goal.returns-in-TooTall
returns-in-TooTall g c = rw c.in-TooTall.is c.write_too_tall.ensures
