use Rattle.std.proofs.Common.{refl, sym, ◌∙◌}
use Rattle.tui_clusters.proofs.PlainReading.{IsRead-more, IsRead-seam, IsRead-some}
use Rattle.tui_clusters.proofs.clusters.part_len.Goals as goal

pub returns-then-is_next-clause-some : goal.returns-then-is_next-clause-some
returns-then-is_next-clause-some c = IsRead-some c.args.text.now c.chars.rest.now c.chars.plain c.chars.invariant.1 c.if-plain.true

pub returns-then-is_next-clause-seam : goal.returns-then-is_next-clause-seam
returns-then-is_next-clause-seam c = λ within.
    IsRead-seam c.args.text.now c.chars.rest.now c.in-Some.following.now c.chars.plain c.in-Some.c _ c.chars.invariant.0 c.chars.invariant.1 c.if-plain.true
    c.in-Some.ensures.split (sym c.is_plain-is_next.ensures ∙ c.if-is_next.true) refl

pub chars-preserved : goal.chars-preserved
chars-preserved c = (
  c.in-Some.ensures.utf8,
  IsRead-more c.args.text.now c.chars.rest.now c.in-Some.following.now c.chars.plain c.is_plain-is_next.result c.in-Some.c c.chars.invariant.1 c.in-Some.ensures.split c.is_plain-is_next.ensures,
)
