-- Modifiers that are added to none and then removed.
use Rattle.std.proofs.Common.{◌≡◌, refl}
use Rattle.std.specs.Int.Bits.{or_zero_l, xor_self}
use Rattle.tui_cells.specs.declared.modifier.Modifier.{Modifier}
use Rattle.tui_cells.specs.Style.{both_modifiers, no_modifier, other_modifiers}

pub both_none : (m : Modifier) → both_modifiers no_modifier m ≡ m
both_none m = rw (or_zero_l m.bits) refl

pub none_other : (m : Modifier) → other_modifiers no_modifier m ≡ no_modifier
none_other m = rw (or_zero_l m.bits, xor_self m.bits) refl
