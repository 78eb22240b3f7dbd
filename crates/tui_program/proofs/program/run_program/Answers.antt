use Rattle.std.proofs.Common.{drop, refl, ◌∙◌, inl}
use Rattle.std.specs.Vec.Iter.{into_iter_items}
use Rattle.tui_program.proofs.FirstArguments.{run_by_all}
use Rattle.tui_program.proofs.program.run_program.Goals as goal

pub returns-in-Ok : goal.returns-in-Ok
returns-in-Ok g c =
    let arguments = drop 1 (into_iter_items c.in-Ok.all) in
    let first = c.as_slice.ensures.value ∙ c.first_arguments-arguments.ensures in
    rw c.in-Ok.is (record { run = inl (arguments, refl, run_by_all g.C.ProgramCommand.rules c.as_slice.result.now arguments g.C.ProgramCommand.few first c.run.ensures) })
