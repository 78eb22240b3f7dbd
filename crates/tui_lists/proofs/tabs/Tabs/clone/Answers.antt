use Rattle.std.proofs.lemmas.Bool.{and_parts}
use Rattle.std.specs.Cmp.Lexicographic.{pointwise}
use Rattle.tui_text.specs.contracts.line.LinePartialEq.TheImpl.{eq-value}
use Rattle.tui_lists.specs.contracts.tabs.TabsEq.TheImpl.Laws.{laws-law}
use Rattle.tui_lists.proofs.tabs.Tabs.clone.Goals as goal

pub returns-clause-equal : goal.returns-clause-equal
returns-clause-equal c =
    let t = c.args.self.now in
    rw (c.in_ok-clone_if_some.ensures.equal, c.in_ok-clone_lines.ensures.equal, c.in_ok-clone.ensures.equal, c.in_ok-clone-2.ensures.equal)
    (and_parts (eq-value.it t.padding_right t.padding_right) _ (and_parts (eq-value.it t.padding_left t.padding_left) _
    (and_parts (pointwise eq-value.it t.titles.items t.titles.items) _ (and_parts _ _ (laws-law.refl t)).1).1).1).1
