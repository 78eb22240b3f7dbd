use Rattle.std.proofs.Common.{◌≡◌, [], ◌∷◌, ◌++◌, arith, get_or, rules, take}
use Rattle.std.proofs.lemmas.Bool.{and_parts}
use Rattle.std.proofs.lemmas.List.{take_all, take_more}
use Rattle.tui_text.proofs.Elements.{pointwise_push, seen_more}
use Rattle.tui_frames.specs.Block.{title_data}
use Rattle.tui_frames.specs.contracts.block.BlockEq.TheImpl.Laws.{laws-law}
use Rattle.tui_frames.specs.contracts.block.title.TitlePartialEq.TheImpl.{eq-value}
use Rattle.tui_frames.proofs.block.Block.clone.Goals as goal

pub loop-title-preserved : goal.loop-title-preserved
loop-title-preserved c =
    let titles = c.args.self.now.titles.items in
    let i = c.loop-title.title-index in
    let known = c.loop-title.invariant in
    let copy = c.in_ok-clone.ensures in
    let at : c.title-item.result ≡ get_or titles i c.title-item.result = rw c.deref-title-items.ensures.value at c.title-item.is in
    let pushed : c.push.new.self.items ≡ c.loop-title.titles.items ++ c.in_ok-clone.field-0 ∷ [] = search rules in
    record {
      same = rw pushed
          (seen_more title_data titles c.loop-title.titles.items i c.title-item.result c.in_ok-clone.field-0 _ (omega arith) at copy.is known.same);
      equal = rw (pushed, take_more titles i c.title-item.result (omega arith), ← at)
          (pointwise_push eq-value.it c.loop-title.titles.items (take i titles) c.in_ok-clone.field-0 c.title-item.result known.equal copy.equal);
    }

pub returns-clause-equal : goal.returns-clause-equal
returns-clause-equal c =
    let all = take_all c.loop-title.title-index c.args.self.now.titles.items (omega arith) in
    rw (rw all at c.loop-title.invariant.equal) (and_parts _ _ (laws-law.refl c.args.self.now)).1
