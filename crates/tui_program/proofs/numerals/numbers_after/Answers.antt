use Rattle.std.proofs.Common.{string_bytes, sym, true≢false, ◌∙◌}
use Rattle.tui_program.proofs.ArgumentLists.{start_with_three, only_numbers, three_arguments}
use Rattle.tui_program.proofs.numerals.numbers_after.Goals as goal

pub returns-then-start_with : goal.returns-then-start_with
returns-then-start_with c =
    let ws = c.args.arguments.now in
    let word = c.args.word.now in
    let v = c.index-arguments-1.result in
    let w = c.index-arguments-2.result in
    let are = three_arguments ws v w word (c.start_with.ensures.0 c.if-start_with.true) c.index-arguments-1.is c.index-arguments-2.is in
    let first = rw c.as_str.ensures.value at c.number_in-first.ensures in
    let second = rw c.as_str-then-start_with.ensures.value at c.number_in.ensures in
    rw c.zip.ensures (only_numbers ws (string_bytes v) (string_bytes w) word c.args.allowed c.number_in-first.result c.number_in.result are
    first.some first.none second.some second.none)

pub returns-else-start_with : goal.returns-else-start_with
returns-else-start_with c = λ p have.
    true≢false (sym (c.start_with.ensures.1 (start_with_three c.args.arguments.now c.args.word.now c.args.allowed p.0 p.1 have)) ∙ c.if-start_with.false)
