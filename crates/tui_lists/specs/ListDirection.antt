-- The names of directions.
use Rattle.std.specs.Prelude.{ℕ, List, codes}
use Rattle.tui_lists.specs.declared.direction.ListDirection.{ListDirection}
use Rattle.tui_lists.specs.declared.direction.ListDirection.TheVariants.{TopToBottom, BottomToTop}

-- the name of a variant
abbrev pub name_of : ListDirection → List ℕ
name_of TopToBottom = codes "TopToBottom"
name_of BottomToTop = codes "BottomToTop"
