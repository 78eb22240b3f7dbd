use Rattle.std.proofs.Common.{codes, sym, ◌∙◌}
use Rattle.std.proofs.lemmas.Slice.Eq.{bytes_eq-Decides}
use Rattle.tui_files_run.proofs.Naming.{after_option}
use Rattle.tui_files_run.proofs.arguments.FilesCommandSystemCommand.from_arguments.Goals as goal

pub returns-in-Some-clause-some : goal.returns-in-Some-clause-some
returns-in-Some-clause-some c =
    let is_option = (bytes_eq-Decides c.as_str.result.now (codes "--folder")).0 (sym c.eq.ensures ∙ c.if-eq.true) in
    after_option c.in-Some.word c.next-folder.result _ _ _ _ (sym c.into_iter-rest.ensures.into_iter_gives.0 ∙ c.in-Some.ensures.steps)
    (sym c.as_str.ensures.value ∙ is_option) c.next-folder.ensures.steps c.with_chosen.ensures.wants c.with_chosen.ensures.paths
