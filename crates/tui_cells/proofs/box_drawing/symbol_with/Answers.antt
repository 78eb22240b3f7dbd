use Rattle.tui_cells.proofs.Charts.{as_many, found_at, none_at, some_at}
use Rattle.tui_cells.proofs.box_drawing.symbol_with.Goals as goal

pub bounds-symbols_by_arms-number : goal.bounds-symbols_by_arms-number
bounds-symbols_by_arms-number c = rw (as_many _ c.symbols_by_arms.ensures) c.number.ensures.within

pub returns-then-is_empty : goal.returns-then-is_empty
returns-then-is_empty c =
    none_at c.args.arms _ _ c.is_empty.ensures c.if-is_empty.true
    (found_at _ _ _ c.args.arms c.symbols_by_arms.ensures c.number.ensures.is c.number.ensures.within)

pub returns-else-is_empty : goal.returns-else-is_empty
returns-else-is_empty c =
    some_at c.args.arms _ _ c.is_empty.ensures c.if-is_empty.false
    (found_at _ _ _ c.args.arms c.symbols_by_arms.ensures c.number.ensures.is c.number.ensures.within)
