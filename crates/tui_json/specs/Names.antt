-- The names of the enums that belong to no widget.
use Rattle.std.specs.Prelude.{[], ◌∷◌, refl}
use Rattle.tui_cells.specs.Strategies as strategy
use Rattle.tui_cells.specs.declared.merge_strategy.MergeStrategy.{MergeStrategy}
use Rattle.tui_cells.specs.declared.merge_strategy.MergeStrategy.TheVariants.{Replace, Exact, Fuzzy}
use Rattle.tui_layout.specs.Direction as direction
use Rattle.tui_layout.specs.Flex as flex
use Rattle.tui_layout.specs.HighlightSpacing as highlight_spacing
use Rattle.tui_layout.specs.declared.direction.Direction.{Direction}
use Rattle.tui_layout.specs.declared.direction.Direction.TheVariants.{Horizontal, Vertical}
use Rattle.tui_layout.specs.declared.flex.Flex.{Flex}
use Rattle.tui_layout.specs.declared.flex.Flex.TheVariants as flexing
use Rattle.tui_layout.specs.declared.highlight_spacing.HighlightSpacing.{HighlightSpacing}
use Rattle.tui_layout.specs.declared.highlight_spacing.HighlightSpacing.TheVariants.{Always, WhenSelected, Never}
use Rattle.tui_json.specs.Named.{Names}

-- the names of all strategies
abbrev pub merge_strategies : Names MergeStrategy
merge_strategies = record {
  name = strategy.name_of;
  values = Replace ∷ Exact ∷ Fuzzy ∷ [];
  found = elim [ Replace ↦ refl | Exact ↦ refl | Fuzzy ↦ refl ];
}

-- the names of all spacings beside a selected row
abbrev pub highlight_spacings : Names HighlightSpacing
highlight_spacings = record {
  name = highlight_spacing.name_of;
  values = Always ∷ WhenSelected ∷ Never ∷ [];
  found = elim [ Always ↦ refl | WhenSelected ↦ refl | Never ↦ refl ];
}

abbrev pub flexes : Names Flex
flexes = record {
  name = flex.name_of;
  values = flexing.Legacy ∷ flexing.Start ∷ flexing.End ∷ flexing.Center ∷ flexing.SpaceBetween ∷ flexing.SpaceEvenly ∷ flexing.SpaceAround ∷ [];
  found = elim [
    | flexing.Legacy ↦ refl
    | flexing.Start ↦ refl
    | flexing.End ↦ refl
    | flexing.Center ↦ refl
    | flexing.SpaceBetween ↦ refl
    | flexing.SpaceEvenly ↦ refl
    | flexing.SpaceAround ↦ refl
  ];
}

abbrev pub directions : Names Direction
directions = record {
  name = direction.name_of;
  values = Horizontal ∷ Vertical ∷ [];
  found = elim [ Horizontal ↦ refl | Vertical ↦ refl ];
}
