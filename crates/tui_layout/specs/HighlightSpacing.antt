-- When columns are reserved for a highlight symbol.
use Rattle.std.specs.Prelude.{ℕ, Bool, true, false, List, codes}
use Rattle.tui_layout.specs.declared.highlight_spacing.HighlightSpacing.{HighlightSpacing}
use Rattle.tui_layout.specs.declared.highlight_spacing.HighlightSpacing.TheVariants.{Always, WhenSelected, Never}

-- whether the columns are reserved, given whether something is selected
abbrev pub should_add : HighlightSpacing → Bool → Bool
should_add Always has_selection = true
should_add WhenSelected has_selection = has_selection
should_add Never has_selection = false

-- the name of a variant
abbrev pub name_of : HighlightSpacing → List ℕ
name_of Always = codes "Always"
name_of WhenSelected = codes "WhenSelected"
name_of Never = codes "Never"
