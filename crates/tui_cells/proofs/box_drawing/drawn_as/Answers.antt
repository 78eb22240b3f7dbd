use Rattle.std.proofs.Common.{sym}
use Rattle.std.proofs.lemmas.List.{get_or_default}
use Rattle.tui_cells.specs.declared.box_drawing.Drawn.TheVariants.{Other}
use Rattle.tui_cells.specs.declared.box_drawing.TheConstants.{CHART}
use Rattle.tui_cells.proofs.Charts.{in_chart, not_known, not_plain}
use Rattle.tui_cells.proofs.box_drawing.drawn_as.Goals as goal

pub returns-in-Some-clause-plain : goal.returns-in-Some-clause-plain
returns-in-Some-clause-plain c =
    let right = in_chart c.args.symbol.now c.in-Some.place (sym c.in-Some.ensures) in
    rw (c.chart.ensures, get_or_default CHART c.in-Some.place _ Other right.within) right.plain

pub returns-in-Some-clause-known : goal.returns-in-Some-clause-known
returns-in-Some-clause-known c =
    let right = in_chart c.args.symbol.now c.in-Some.place (sym c.in-Some.ensures) in
    rw (c.chart.ensures, get_or_default CHART c.in-Some.place _ Other right.within) right.known

pub returns-in-None-clause-plain : goal.returns-in-None-clause-plain
returns-in-None-clause-plain c = not_plain c.args.symbol.now (sym c.in-None.ensures)

pub returns-in-None-clause-known : goal.returns-in-None-clause-known
returns-in-None-clause-known c = not_known c.args.symbol.now (sym c.in-None.ensures)
