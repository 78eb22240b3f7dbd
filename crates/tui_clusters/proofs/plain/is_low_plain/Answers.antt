use Rattle.tui_clusters.proofs.PlainChars.{low_plain}
use Rattle.tui_clusters.proofs.plain.is_low_plain.Goals as goal

pub returns : goal.returns
returns c = λ low. rw (c.is_within.ensures, c.is_within-2.ensures, c.is_within-3.ensures, c.is_within-4.ensures, c.is_within-5.ensures, c.is_within-6.ensures) (low_plain c.args.code low)
