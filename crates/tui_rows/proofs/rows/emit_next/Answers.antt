use Rattle.std.proofs.Common.{arith, rules, ap, refl, sym, ◌≡◌, ◌∙◌, ◌++◌, ℕ, List, append_assoc}
use Rattle.tui_text.proofs.ShownCells.{some_step}
use Rattle.tui_rows.proofs.RowLemmas.{row_narrow, row_step}
use Rattle.tui_rows.proofs.rows.emit_next.Goals as goal

pub returns-in-Some-clause-emitted : goal.returns-in-Some-clause-emitted
returns-in-Some-clause-emitted g c =
    let cell = c.index-row-column.result in
    let step = rw (c.step-step.ensures, c.symbol-symbol.ensures.is) at c.min.ensures in
    let first = row_step c.args.row.now c.args.column c.min.result cell c.requires c.index-row-column.is step in
    let more = c.emit_three.ensures.emitted in
    let same : c.in-Some.three.now ≡ cell.symbol = c.in-Some.ensures.cases.same ∙ (c.as_bytes.ensures.value ∙ c.symbol-symbol.ensures.is) in
    (cell.symbol ++ more.0, first ∙ (ap (λ (l : List ℕ). cell.symbol ++ l) more.1 ∙ sym (append_assoc cell.symbol more.0 _)), rw same at more.2)

pub returns-in-Some-clause-within : goal.returns-in-Some-clause-within
returns-in-Some-clause-within g c =
    let some = some_step c.symbol-symbol.result.now in
    let step = c.step-step.ensures in
    let less = c.min.ensures in
    let past = c.emit_three.ensures.within in (omega (arith, some, step, less, past.0, c.requires), past.1)

pub returns-in-None-clause-within : goal.returns-in-None-clause-within
returns-in-None-clause-within g c =
    let some = some_step c.symbol-symbol.result.now in
    let step = c.step-step.ensures in
    let less = c.min.ensures in (omega (arith, some, step, less, c.requires), omega (arith, less, c.requires))

pub returns-in-None-clause-emitted : goal.returns-in-None-clause-emitted
returns-in-None-clause-emitted g c =
    let cell = c.index-row-column.result in
    let text = rw c.symbol-symbol.ensures.is at c.emit_symbol-in-None.ensures in
    let step = rw (c.step-step.ensures, c.symbol-symbol.ensures.is) at c.min.ensures in
    (cell.symbol, row_step c.args.row.now c.args.column c.min.result cell c.requires c.index-row-column.is step, text)

pub returns-then-is_letter-clause-emitted : goal.returns-then-is_letter-clause-emitted
returns-then-is_letter-clause-emitted g c =
    let cell = c.index-row-column.result in
    let text = rw c.symbol-symbol.ensures.is at c.emit_symbol.ensures in
    let one = rw c.symbol-symbol.ensures.is at (c.is_letter.ensures (search rules)) in
    (cell.symbol, row_narrow c.args.row.now c.args.column cell.symbol cell c.requires c.index-row-column.is refl one, text)
