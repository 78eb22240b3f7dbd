use Rattle.std.proofs.Common.{◌≡◌, length, take}
use Rattle.tui_panes_lib.specs.Order.{AreMarked}
use Rattle.tui_panes_lib.proofs.order.mark_each.Given as goal

-- the first numbers are marked
abbrev pub invariant-marking : goal.invariant-marking
invariant-marking l = record {
  marked : AreMarked l.marks (take l.leaf-index l.order);
  same_length : length l.marks ≡ length l.fn.marks;
}
