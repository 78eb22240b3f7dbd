use Rattle.std.proofs.Common.{◌≡◌, [], ◌∷◌, ◌++◌, arith, get_or, rules, take}
use Rattle.std.proofs.lemmas.List.{take_more}
use Rattle.tui_text.specs.Line.{line_data}
use Rattle.tui_text.specs.contracts.line.LinePartialEq.TheImpl.{eq-value}
use Rattle.tui_text.proofs.Elements.{pointwise_push, seen_more}
use Rattle.tui_lists.proofs.tabs.clone_lines.Goals as goal

pub loop-line-preserved : goal.loop-line-preserved
loop-line-preserved c =
    let lines = c.args.lines.now.items in
    let i = c.loop-line.line-index in
    let known = c.loop-line.invariant in
    let made = c.in_ok-clone.ensures in
    let at : c.line-item.result ≡ get_or lines i c.line-item.result = rw c.deref-line-items.ensures.value at c.line-item.is in
    let pushed : c.push.new.self.items ≡ c.loop-line.copy.items ++ c.in_ok-clone.field-0 ∷ [] = search rules in
    record {
      same = rw pushed (seen_more line_data lines c.loop-line.copy.items i c.line-item.result c.in_ok-clone.field-0 _ (omega arith) at made.is known.same);
      equal = rw (pushed, take_more lines i c.line-item.result (omega arith), ← at)
          (pointwise_push eq-value.it c.loop-line.copy.items (take i lines) c.in_ok-clone.field-0 c.line-item.result known.equal made.equal);
    }
