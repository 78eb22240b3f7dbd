use Rattle.std.proofs.Common.{sym}
use Rattle.tui_terminal_laws.proofs.Seen.{blank_step, blank_known_width}
use Rattle.tui_terminal.proofs.seeing.see_under.Goals as goal

pub returns-in-Some-clause-columns : goal.returns-in-Some-clause-columns
returns-in-Some-clause-columns c = sym blank_step

pub returns-in-Some-clause-known_width : goal.returns-in-Some-clause-known_width
returns-in-Some-clause-known_width c = sym (blank_known_width c.args.widths)

pub returns-in-None-clause-columns : goal.returns-in-None-clause-columns
returns-in-None-clause-columns c = sym blank_step

pub returns-in-None-clause-known_width : goal.returns-in-None-clause-known_width
returns-in-None-clause-known_width c = sym (blank_known_width c.args.widths)
