use Rattle.std.proofs.Common.{◌≡◌, true, length, ap, sym, ◌∙◌, arith}
use Rattle.unicode_segmentation.specs.Grapheme.{graphemes}
use Rattle.tui_clusters.specs.Clusters.{part_left}
use Rattle.tui_clusters.proofs.Seams.{shown-end, shown-plain}
use Rattle.tui_clusters.proofs.clusters.Clusters.next_any.Goals as goal

pub returns-then-is_empty : goal.returns-then-is_empty
returns-then-is_empty c =
    let ended = rw c.in_default.is at c.next_in_part.ensures.found in
    let same = c.next_in_part.ensures.rest in
    let none : length c.next_in_part.new.self.rest.now ≡ 0 = grind (arith, c.is_empty.ensures) in (
      c.clusters.invariant ∙ shown-end (part_left c.clusters.self) c.clusters.self.rest.now ended.0 (sym (ap length same) ∙ none),
      shown-end (part_left c.next_in_part.new.self) c.next_in_part.new.self.rest.now ended.1 none,
    )

pub returns-then-is_plain_char : goal.returns-then-is_plain_char
returns-then-is_plain_char c =
    let ended = rw c.in_default.is at c.next_in_part.ensures.found in
    c.clusters.invariant
    ∙ shown-plain (part_left c.clusters.self) (part_left c.next_in_part.new.self) c.clusters.self.rest.now c.first_part.result.0.now c.first_part.result.1.now
    ended.0 ended.1 (sym (ap (graphemes true) c.next_in_part.ensures.rest) ∙ c.first_part.ensures.clusters) (c.is_plain_char.ensures.0 c.if-is_plain_char.true)
