use Rattle.std.proofs.Common.{◌≡◌, ◌+◌, ◌++◌, length, drop}
use Rattle.std.specs.Vec.Iter.{into_iter_items, into_iter_len}
use Rattle.tui_panes_lib.specs.Pane.{parts_of}
use Rattle.tui_panes_lib.specs.Place.{place_parts}
use Rattle.tui_panes_lib.proofs.pane.Pane.+place.Given as goal

-- the first parts are placed; placing the others on the remaining columns completes the pane
abbrev pub invariant-placing : goal.invariant-placing
invariant-placing l =
    (l.scene ++ place_parts l.direction l.area (drop l.at l.columns.items) (parts_of (into_iter_items l.part-iterator))
    ≡ l.initial.scene ++ place_parts l.direction l.area l.columns.items (parts_of (into_iter_items l.initial.part-iterator)))
    × (l.at + length (into_iter_items l.part-iterator) ≡ length l.columns.items)
    × (into_iter_len l.part-iterator ≡ length (into_iter_items l.part-iterator))
