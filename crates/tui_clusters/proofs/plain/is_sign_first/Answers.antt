use Rattle.std.proofs.Common.{arith, rules}
use Rattle.std.proofs.lemmas.Bool.Decides.{nat_tests}
use Rattle.tui_clusters.proofs.FirstPlain.{sign_before}
use Rattle.tui_clusters.proofs.plain.is_sign_first.Goals as goal

pub returns-clause-seam : goal.returns-clause-seam
returns-clause-seam c = λ some less.
    sign_before c.args.text.now c.as_bytes-bytes.result.now c.is_sign_start.result c.plain_len.result c.utf8.text c.as_bytes-bytes.ensures.value
    c.is_sign_start.ensures (search rules) less c.plain_len.ensures (grind (arith, nat_tests))
