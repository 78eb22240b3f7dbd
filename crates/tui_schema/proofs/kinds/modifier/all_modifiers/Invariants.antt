use Rattle.std.proofs.Common.{◌≡◌, drop}
use Rattle.serde_json.specs.View.{items_view}
use Rattle.tui_cells.specs.Style.{both_modifiers, no_modifier}
use Rattle.tui_schema.specs.Kinds.Joined.{joined_of}
use Rattle.tui_schema.specs.Kinds.Modifier.{modifier_named}
use Rattle.tui_schema.proofs.kinds.modifier.all_modifiers.Given as goal

abbrev pub invariant-loop-name : goal.invariant-loop-name
invariant-loop-name l = joined_of both_modifiers modifier_named l.modifiers (items_view (drop l.name-index l.names))
    ≡ joined_of both_modifiers modifier_named no_modifier (items_view l.names)
