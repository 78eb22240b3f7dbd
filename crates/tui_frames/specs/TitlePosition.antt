-- The names of the sides on which titles are placed.
use Rattle.std.specs.Prelude.{ℕ, List, codes}
use Rattle.tui_frames.specs.declared.title_position.TitlePosition.{TitlePosition}
use Rattle.tui_frames.specs.declared.title_position.TitlePosition.TheVariants.{Top, Bottom}

-- the name of a variant
abbrev pub name_of : TitlePosition → List ℕ
name_of Top = codes "Top"
name_of Bottom = codes "Bottom"
