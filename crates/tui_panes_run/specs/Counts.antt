-- Counts of the panes that were read.
use Rattle.std.specs.Prelude.{ℕ, ◌+◌}
use Rattle.tui_panes_run.specs.declared.counts.Counts.{Counts}

-- the panes, and how many of them are leaves; also the numbers of the next pane and of the next leaf
pub record CountsData : Type 0 where
  pub panes : ℕ
  pub leaves : ℕ

abbrev pub counts_data : Counts → CountsData
counts_data c = record { panes = c.panes; leaves = c.leaves }

abbrev pub no_panes : CountsData
no_panes = record { panes = 0; leaves = 0 }

abbrev pub with_leaf : CountsData → CountsData
with_leaf c = record { panes = c.panes + 1; leaves = c.leaves + 1 }

abbrev pub with_split : CountsData → CountsData
with_split c = record { panes = c.panes + 1; leaves = c.leaves }

-- the most panes that a tree may have
abbrev pub most_panes : ℕ
most_panes = 256
