-- The orders in which leaves are drawn.
use Rattle.std.specs.Prelude.{ℕ, List, reverse}
use Rattle.std.specs.List.{range_with_len}
use Rattle.tui_panes_run.specs.declared.order.Order.{Order}
use Rattle.tui_panes_run.specs.declared.order.Order.TheVariants.{FirstToLast, LastToFirst}

-- the numbers of this many leaves in an order
abbrev pub numbers_of : Order → ℕ → List ℕ
numbers_of FirstToLast count = range_with_len 0 count
numbers_of LastToFirst count = reverse (range_with_len 0 count)
