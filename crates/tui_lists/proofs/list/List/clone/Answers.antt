use Rattle.std.proofs.lemmas.Bool.{and_parts}
use Rattle.std.specs.Cmp.Lexicographic.{pointwise}
use Rattle.tui_lists.specs.contracts.list.item.ListItemPartialEq.TheImpl.{eq-value}
use Rattle.tui_lists.specs.contracts.list.ListEq.TheImpl.Laws.{laws-law}
use Rattle.tui_lists.proofs.list.List.clone.Goals as goal

pub returns-clause-equal : goal.returns-clause-equal
returns-clause-equal c =
    let items = c.args.self.now.items.items.items in
    rw (c.in_ok-clone_if_some.ensures.equal, c.in_ok-clone.ensures.equal, c.in_ok-clone_symbol.ensures.equal)
    (and_parts _ _ (and_parts (pointwise eq-value.it items items) _ (and_parts _ _ (laws-law.refl c.args.self.now)).1).1).1
