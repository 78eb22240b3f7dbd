-- The names of the directions of scrolling.
use Rattle.std.specs.Prelude.{ℕ, List, codes}
use Rattle.tui_lists.specs.declared.scrollbar.direction.ScrollDirection.{ScrollDirection}
use Rattle.tui_lists.specs.declared.scrollbar.direction.ScrollDirection.TheVariants.{Forward, Backward}

-- the name of a variant
abbrev pub name_of : ScrollDirection → List ℕ
name_of Forward = codes "Forward"
name_of Backward = codes "Backward"
