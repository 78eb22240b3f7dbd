use Rattle.std.proofs.Common.{◌≡◌, drop}
use Rattle.serde_json.specs.View.{items_view}
use Rattle.tui_frames.specs.Borders.{borders_of, both_borders}
use Rattle.tui_schema.specs.Kinds.Joined.{joined_of}
use Rattle.tui_schema.specs.Kinds.Borders.{side_named}
use Rattle.tui_schema.proofs.kinds.borders.all_sides.Given as goal

abbrev pub invariant-loop-name : goal.invariant-loop-name
invariant-loop-name l = joined_of both_borders side_named l.sides (items_view (drop l.name-index l.names))
    ≡ joined_of both_borders side_named (borders_of 0) (items_view l.names)
