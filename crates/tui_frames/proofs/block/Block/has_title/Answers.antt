use Rattle.std.proofs.Common.{map, sym, ap, ◌∙◌, arith}
use Rattle.std.specs.List.{list_any}
use Rattle.tui_text.proofs.Elements.{none_from, seen_from}
use Rattle.tui_frames.specs.Block.{block_data, title_data}
use Rattle.tui_frames.specs.Titles.{is_on}
use Rattle.tui_frames.proofs.TitleLists.{any_here, any_later}
use Rattle.tui_frames.proofs.block.Block.has_title.Goals as goal

pub returns-then-is_on : goal.returns-then-is_on
returns-then-is_on c =
    let titles = c.args.self.now.titles.items in
    let at = rw c.deref-title-items.ensures.value at c.title-item.is in
    let one = seen_from title_data titles c.loop-title.title-index c.title-item.result _ (omega arith) at in
    sym (c.loop-title.invariant ∙ any_here (is_on (block_data c.args.self.now) c.args.position) _ _ _ one (sym c.is_on.ensures ∙ c.if-is_on.true))

pub loop-title-preserved : goal.loop-title-preserved
loop-title-preserved c =
    let titles = c.args.self.now.titles.items in
    let at = rw c.deref-title-items.ensures.value at c.title-item.is in
    let one = seen_from title_data titles c.loop-title.title-index c.title-item.result _ (omega arith) at in
    c.loop-title.invariant ∙ any_later (is_on (block_data c.args.self.now) c.args.position) _ _ _ one (sym c.is_on.ensures ∙ c.if-is_on.false)

pub returns : goal.returns
returns c =
    let titles = c.args.self.now.titles.items in
    sym (c.loop-title.invariant
    ∙ ap (λ ts. list_any (is_on (block_data c.args.self.now) c.args.position) (map title_data ts)) (none_from titles c.loop-title.title-index (omega arith)))
