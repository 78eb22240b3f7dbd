-- A pane as plain data.
use Rattle.std.specs.Prelude.{List, [], ◌∷◌}
use Rattle.tui_layout.specs.declared.constraint.Constraint.{Constraint}
use Rattle.tui_panes_lib.specs.declared.pane.Part.{Part}
use Rattle.tui_scene.specs.Item.{item_data}
use Rattle.tui_panes_lib.specs.Place.{PaneData, PartsData, leaf, split, no_parts, part}
use Rattle.tui_panes_lib.specs.declared.pane.Pane.{Pane, Leaf, Split', Row_of-Part, end_of-Part, more_of-Part}

abbrev mutual
  pub pane_data : Pane → PaneData
  pane_data (Leaf item) = leaf (item_data item)
  pane_data (Split' direction spacing flex shape parts) = split direction spacing flex (parts_data parts)

  pub parts_data : {m : _} → Row_of-Part m → PartsData
  parts_data end_of-Part = no_parts
  parts_data (more_of-Part size pane rest) = part size (pane_data pane) (parts_data rest)

-- the sizes of parts
abbrev pub sizes_data : List Part → List Constraint
sizes_data [] = []
sizes_data (p ∷ ps) = p.size ∷ sizes_data ps

-- the parts in a list
abbrev pub parts_of : List Part → PartsData
parts_of [] = no_parts
parts_of (p ∷ ps) = part p.size (pane_data p.pane) (parts_of ps)
