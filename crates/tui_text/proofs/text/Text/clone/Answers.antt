use Rattle.std.proofs.Common.{◌≡◌, ◌<◌, [], ◌∷◌, ◌++◌, ap, arith, get_or, length, rules, take}
use Rattle.std.proofs.lemmas.Bool.{and_parts}
use Rattle.std.proofs.lemmas.List.{take_all, take_more}
use Rattle.tui_text.specs.Line.{line_data}
use Rattle.tui_text.specs.contracts.line.LinePartialEq.TheImpl.{eq-value}
use Rattle.tui_text.specs.contracts.text.TextEq.TheImpl.Laws.{laws-law}
use Rattle.tui_text.proofs.Elements.{pointwise_push, seen_more}
use Rattle.tui_text.proofs.text.Text.clone.Goals as goal

pub loop-line-preserved : goal.loop-line-preserved
loop-line-preserved c =
    let lines = c.args.self.now.lines.items in
    let i = c.loop-line.line-index in
    let known = c.loop-line.invariant in
    let count = ap length c.as_slice-line-items.ensures in
    let within : i < length lines = omega arith in
    let copy = c.in_ok-clone.ensures in
    let at : c.line-item.result ≡ get_or lines i c.line-item.result = rw c.as_slice-line-items.ensures at c.line-item.is in
    let pushed : c.push.new.self.items ≡ c.loop-line.lines.items ++ c.in_ok-clone.field-0 ∷ [] = search rules in
    record {
      same = rw pushed (seen_more line_data lines c.loop-line.lines.items i c.line-item.result c.in_ok-clone.field-0 _ within at copy.is known.same);
      equal = rw (pushed, take_more lines i c.line-item.result within, ← at)
          (pointwise_push eq-value.it c.loop-line.lines.items (take i lines) c.in_ok-clone.field-0 c.line-item.result known.equal copy.equal);
    }

pub returns-clause-equal : goal.returns-clause-equal
returns-clause-equal c =
    let count = ap length c.as_slice-line-items.ensures in
    let all = take_all c.loop-line.line-index c.args.self.now.lines.items (omega arith) in
    rw (rw all at c.loop-line.invariant.equal) (and_parts _ _ (laws-law.refl c.args.self.now)).1
