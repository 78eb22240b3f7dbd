-- The names of the logo's sizes.
use Rattle.std.specs.Prelude.{ℕ, List, codes}
use Rattle.tui_para.specs.declared.size.Size.{Size}
use Rattle.tui_para.specs.declared.size.Size.TheVariants.{Tiny, Small}

-- the name of a variant
abbrev pub name_of : Size → List ℕ
name_of Tiny = codes "Tiny"
name_of Small = codes "Small"
