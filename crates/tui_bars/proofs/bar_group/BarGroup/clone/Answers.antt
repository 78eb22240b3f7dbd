use Rattle.std.proofs.Common.{◌≡◌, [], ◌∷◌, ◌++◌, arith, get_or, refl, rules, take}
use Rattle.std.proofs.lemmas.List.{take_all, take_more}
use Rattle.tui_text.proofs.Elements.{pointwise_push, seen_more}
use Rattle.tui_bars.specs.BarChart.{bar_data}
use Rattle.tui_bars.specs.contracts.bar.BarPartialEq.TheImpl.{eq-value}
use Rattle.tui_bars.proofs.bar_group.BarGroup.clone.Goals as goal

pub loop-bar-preserved : goal.loop-bar-preserved
loop-bar-preserved c =
    let bars = c.args.self.now.bars.items in
    let i = c.loop-bar.bar-index in
    let known = c.loop-bar.invariant in
    let copy = c.in_ok-clone.ensures in
    let at : c.bar-item.result ≡ get_or bars i c.bar-item.result = rw c.deref-bar-items.ensures.value at c.bar-item.is in
    let pushed : c.push.new.self.items ≡ c.loop-bar.bars.items ++ c.in_ok-clone.field-0 ∷ [] = search rules in
    record {
      same = rw pushed
          (seen_more bar_data bars c.loop-bar.bars.items i c.bar-item.result c.in_ok-clone.field-0 _ (omega arith) at copy.is known.same);
      equal = rw (pushed, take_more bars i c.bar-item.result (omega arith), ← at)
          (pointwise_push eq-value.it c.loop-bar.bars.items (take i bars) c.in_ok-clone.field-0 c.bar-item.result known.equal copy.equal);
    }

pub returns-clause-equal : goal.returns-clause-equal
returns-clause-equal c =
    let all = take_all c.loop-bar.bar-index c.args.self.now.bars.items (omega arith) in
    rw (c.in_ok-clone_label.ensures.equal, rw all at c.loop-bar.invariant.equal) refl
