use Rattle.tui_line_places.proofs.FromLine.{clause_from, clause_past}
use Rattle.tui_line_places.proofs.places.from_line.Goals as goal

pub returns-clause-past : goal.returns-clause-past
returns-clause-past c = clause_past c.args.lines.width c.args.lines.trim c.args.text.now c.args.line c.rest_from.result c.rest_from.ensures

pub returns-clause-rest : goal.returns-clause-rest
returns-clause-rest c = clause_from c.args.lines.width c.args.lines.trim c.args.text.now c.args.line c.rest_from.result c.rest_from.ensures
