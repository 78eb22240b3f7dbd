use Rattle.std.proofs.Common.{◌≡◌, ◌<◌, ◌≤◌, length, rules, true, false, sym, ap, ◌∙◌, arith}
use Rattle.tui_terminal.specs.Narrow.{is_narrow}
use Rattle.tui_terminal.proofs.RowTests.{tested, tested_all}
use Rattle.tui_terminal.proofs.narrow.is_narrow_row.Goals as goal

pub columns-preserved : goal.columns-preserved
columns-preserved c =
    let widths = c.args.widths in
    let l = c.columns in
    let row = c.args.row.now in
    let cell = c.index-row-column.result in
    let lt : l.column < length row = search (rules, arith) in
    let on : c.is_narrow.result ≡ true = search rules in
    let is : is_narrow widths cell.symbol ≡ true = ap (is_narrow widths) (sym c.symbol.ensures.is) ∙ (sym c.is_narrow.ensures ∙ on) in
    sym (tested (is_narrow widths) row l.column cell _ lt c.index-row-column.is is) ∙ l.invariant

pub returns-then-not-is_narrow : goal.returns-then-not-is_narrow
returns-then-not-is_narrow c =
    let widths = c.args.widths in
    let l = c.columns in
    let row = c.args.row.now in
    let cell = c.index-row-column.result in
    let lt : l.column < length row = search (rules, arith) in
    let off : c.is_narrow.result ≡ false = search rules in
    let is : is_narrow widths cell.symbol ≡ false = ap (is_narrow widths) (sym c.symbol.ensures.is) ∙ (sym c.is_narrow.ensures ∙ off) in
    sym (tested (is_narrow widths) row l.column cell _ lt c.index-row-column.is is) ∙ l.invariant

pub returns : goal.returns
returns c =
    let widths = c.args.widths in
    let l = c.columns in
    let past : length c.args.row.now ≤ l.column = search (rules, arith) in
    tested_all (is_narrow c.args.widths) c.args.row.now l.column past ∙ l.invariant
