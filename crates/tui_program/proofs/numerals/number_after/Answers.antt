use Rattle.std.proofs.Common.{string_bytes, sym, true≢false, ◌∙◌}
use Rattle.tui_program.proofs.ArgumentLists.{start_with_two, only_number, two_arguments}
use Rattle.tui_program.proofs.numerals.number_after.Goals as goal

pub returns-then-start_with : goal.returns-then-start_with
returns-then-start_with c =
    let ws = c.args.arguments.now in
    let word = c.args.word.now in
    let w = c.index-arguments-1.result in
    let are = two_arguments ws w word (c.start_with.ensures.0 c.if-start_with.true) c.index-arguments-1.is in
    only_number ws (string_bytes w) word c.args.allowed c.number_in.result are (rw c.as_str.ensures.value at c.number_in.ensures.some)
    (rw c.as_str.ensures.value at c.number_in.ensures.none)

pub returns-else-start_with : goal.returns-else-start_with
returns-else-start_with c = λ n have. true≢false (sym (c.start_with.ensures.1 (start_with_two c.args.arguments.now c.args.word.now c.args.allowed n have)) ∙ c.if-start_with.false)
