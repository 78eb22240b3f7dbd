use Rattle.std.proofs.Common.{◌≡◌, ◌-◌, ◌<◌, ◌≤◌, length, rules, true, false, refl, sym, ◌∙◌, arith}
use Rattle.tui_terminal.proofs.FitRows.{fit_all, fit_more}
use Rattle.tui_terminal.proofs.fitting.is_fit_row.Goals as goal

pub columns-preserved : goal.columns-preserved
columns-preserved c =
    let l = c.columns in
    let row = c.args.row.now in
    let lt : l.column < length row = search (rules, arith) in
    let on : c.is_fit.result ≡ true = search rules in
    sym (fit_more c.args.widths row l.column (length row - l.column) c.index-row-column.result true lt c.index-row-column.is refl (sym c.is_fit.ensures ∙ on)) ∙ l.invariant

pub returns-then-not-is_fit : goal.returns-then-not-is_fit
returns-then-not-is_fit c =
    let l = c.columns in
    let row = c.args.row.now in
    let lt : l.column < length row = search (rules, arith) in
    let off : c.is_fit.result ≡ false = search rules in
    sym (fit_more c.args.widths row l.column (length row - l.column) c.index-row-column.result false lt c.index-row-column.is refl (sym c.is_fit.ensures ∙ off)) ∙ l.invariant

pub returns : goal.returns
returns c =
    let l = c.columns in
    let past : length c.args.row.now ≤ l.column = search (rules, arith) in
    fit_all c.args.widths c.args.row.now l.column past ∙ l.invariant
