use Rattle.tui_program.proofs.ArgumentLists.{one_alone}
use Rattle.tui_program.proofs.arguments.is_single_argument.Goals as goal

pub returns : goal.returns
returns c =
    let alone = one_alone c.args.arguments.now c.args.word.now in
    (λ t. alone.0 (c.start_with.ensures.0 t), λ are. c.start_with.ensures.1 (alone.1 are))
