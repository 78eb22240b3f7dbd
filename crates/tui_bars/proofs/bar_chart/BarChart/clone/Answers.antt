use Rattle.std.proofs.Common.{◌≡◌, [], ◌∷◌, ◌++◌, arith, get_or, rules, take}
use Rattle.std.proofs.lemmas.Bool.{and_parts}
use Rattle.std.proofs.lemmas.List.{take_all, take_more}
use Rattle.tui_text.proofs.Elements.{pointwise_push, seen_more}
use Rattle.tui_bars.specs.BarChart.{group_data}
use Rattle.tui_bars.specs.contracts.bar_chart.BarChartEq.TheImpl.Laws.{laws-law}
use Rattle.tui_bars.specs.contracts.bar_group.BarGroupPartialEq.TheImpl.{eq-value}
use Rattle.tui_bars.proofs.bar_chart.BarChart.clone.Goals as goal

pub loop-group-preserved : goal.loop-group-preserved
loop-group-preserved c =
    let groups = c.args.self.now.groups.items in
    let i = c.loop-group.group-index in
    let known = c.loop-group.invariant in
    let copy = c.in_ok-clone.ensures in
    let at : c.group-item.result ≡ get_or groups i c.group-item.result = rw c.deref-group-items.ensures.value at c.group-item.is in
    let pushed : c.push.new.self.items ≡ c.loop-group.groups.items ++ c.in_ok-clone.field-0 ∷ [] = search rules in
    record {
      same = rw pushed
          (seen_more group_data groups c.loop-group.groups.items i c.group-item.result c.in_ok-clone.field-0 _ (omega arith) at copy.is known.same);
      equal = rw (pushed, take_more groups i c.group-item.result (omega arith), ← at)
          (pointwise_push eq-value.it c.loop-group.groups.items (take i groups) c.in_ok-clone.field-0 c.group-item.result known.equal copy.equal);
    }

pub returns-clause-equal : goal.returns-clause-equal
returns-clause-equal c =
    let all = take_all c.loop-group.group-index c.args.self.now.groups.items (omega arith) in
    rw (c.in_ok-clone_if_some.ensures.equal, rw all at c.loop-group.invariant.equal) (and_parts _ _ (and_parts _ _ (laws-law.refl c.args.self.now)).1).1
