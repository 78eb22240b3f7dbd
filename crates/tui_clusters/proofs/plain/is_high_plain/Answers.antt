use Rattle.tui_clusters.proofs.PlainChars.{high_plain}
use Rattle.tui_clusters.proofs.plain.is_high_plain.Goals as goal

pub returns : goal.returns
returns c = λ high. rw (c.is_within.ensures, c.is_within-2.ensures, c.is_within-3.ensures, c.is_within-4.ensures, c.is_within-5.ensures) (high_plain c.args.code high)
