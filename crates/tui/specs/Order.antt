-- The order of padding.
use Rattle.std.specs.Ordering.{nat_cmp, ordering_then}
use Rattle.std.specs.Prelude.{◌≡◌}
use Rattle.std.specs.declared.cmp.Ordering.{Ordering}
use Rattle.tui_frames.specs.contracts.padding.PaddingOrd as padding
use Rattle.tui_frames.specs.declared.padding.Padding.{Padding}

-- by the left side first, then by the right one, the top and the bottom
abbrev pub by_sides : Padding → Padding → Ordering
by_sides a b =
    ordering_then (nat_cmp a.left b.left)
    (ordering_then (nat_cmp a.right b.right) (ordering_then (nat_cmp a.top b.top) (nat_cmp a.bottom b.bottom)))

-- two paddings compare as their sides do, in this order
abbrev pub PaddingIsOrdered : Type 0
PaddingIsOrdered = (a b : Padding) → padding.TheImpl.ghosts.cmp a b ≡ by_sides a b
