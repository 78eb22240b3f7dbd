-- The names of keys.
use Rattle.std.specs.Prelude.{ℕ, List, codes}
use Rattle.tui_pager_lib.specs.declared.key.Key.{Key}
use Rattle.tui_pager_lib.specs.declared.key.Key.TheVariants.{Up, Down, PageUp, PageDown, First, Last, LineUp, LineDown, BodyTop, BodyEnd}

-- the name of a variant
abbrev pub name_of : Key → List ℕ
name_of Up = codes "Up"
name_of Down = codes "Down"
name_of PageUp = codes "PageUp"
name_of PageDown = codes "PageDown"
name_of First = codes "First"
name_of Last = codes "Last"
name_of LineUp = codes "LineUp"
name_of LineDown = codes "LineDown"
name_of BodyTop = codes "BodyTop"
name_of BodyEnd = codes "BodyEnd"
