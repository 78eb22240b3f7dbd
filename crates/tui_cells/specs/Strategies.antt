-- The names of the merge strategies.
use Rattle.std.specs.Prelude.{ℕ, List, codes}
use Rattle.tui_cells.specs.declared.merge_strategy.MergeStrategy.{MergeStrategy}
use Rattle.tui_cells.specs.declared.merge_strategy.MergeStrategy.TheVariants.{Replace, Exact, Fuzzy}

-- the name of a variant
abbrev pub name_of : MergeStrategy → List ℕ
name_of Replace = codes "Replace"
name_of Exact = codes "Exact"
name_of Fuzzy = codes "Fuzzy"
