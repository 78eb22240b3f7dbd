use Rattle.tui_terminal_laws.proofs.Readings.{has_one_reading}
use Rattle.tui_terminal_laws.proofs.KnownWidthTexts.{known_widths_have_one_reading}
use Rattle.tui_terminal_laws.proofs.laws.reading_law.Goals as goal

pub returns : goal.returns
returns c = record { one = has_one_reading; known_width = known_widths_have_one_reading }
