use Rattle.tui_line_places.proofs.AfterLine.{clause_one, clause_rest, clause_shorter}
use Rattle.tui_line_places.proofs.rest.after_line.Goals as goal

pub returns-clause-one : goal.returns-clause-one
returns-clause-one c = clause_one c.args.lines.width c.args.lines.trim c.args.text.now c.utf8.text c.second_line.result c.second_line.ensures

pub returns-clause-rest : goal.returns-clause-rest
returns-clause-rest c = clause_rest c.args.lines.width c.args.lines.trim c.args.text.now c.utf8.text c.second_line.result c.second_line.ensures

pub returns-clause-shorter : goal.returns-clause-shorter
returns-clause-shorter c = clause_shorter c.args.lines.width c.args.lines.trim c.args.text.now c.utf8.text c.second_line.result c.second_line.ensures
