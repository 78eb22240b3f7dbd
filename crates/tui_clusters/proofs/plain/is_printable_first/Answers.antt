use Rattle.tui_clusters.proofs.FirstPlain.{quick_printable}
use Rattle.tui_clusters.proofs.plain.is_printable_first.Goals as goal

pub returns-clause-is : goal.returns-clause-is
returns-clause-is c = rw c.as_bytes.ensures.value at c.begins_printable.ensures

pub returns-clause-first : goal.returns-clause-first
returns-clause-first c = λ is.
    let begins = c.begins_printable.ensures.0 is in
    quick_printable c.args.text.now c.as_bytes.result.now c.utf8.text c.requires c.as_bytes.ensures.value begins.0 begins.1
