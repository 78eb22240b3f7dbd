-- The command `demo`: its text, its scene and its line, in files of their own, and its output.
pub mod Text
pub mod Scene
pub mod Line
use Rattle.std.specs.Prelude.{◌≡◌, ℕ, ◌/◌, List, [], ◌∷◌, ◌++◌, flat_map, Some}
use Rattle.tui_cells.specs.Buffer.{Screen}
use Rattle.tui_show_run.specs.Demo.Line.{demo_line}
use Rattle.tui_show_run.specs.Demo.Scene.{HasLines, demo_heights, demo_scene}
use Rattle.tui_layout.specs.Found.{window_of}
use Rattle.tui_rows.specs.RowLine.{row_line}
use Rattle.tui_scene.specs.Item.{ItemData, PlacedData, list}
use Rattle.tui_scene.specs.Drawn.{IsDrawn}

-- the first item that the list of n items shows in 8 rows: the middle item is visible, and one item on each side of it
abbrev pub demo_offset : ℕ → ℕ
demo_offset n = (window_of (demo_heights n) 8 0 (Some (n / 2)) 1).first

-- The output of `demo`. It is a line that says how many items there are, which one is shown first, and how many lines
-- the words take. After it come the rows of the screen that results from drawing n items and n words on a blank buffer.
pub record IsDemo (n : ℕ) (text : List ℕ) : Type 0 where
  pub lines : ℕ
  pub has_lines : HasLines n lines
  pub new : List PlacedData
  pub screen : Screen
  pub drawn : IsDrawn 40 8 (demo_scene n) new screen
  pub text_is : text ≡ demo_line n (demo_offset n) lines ++ flat_map row_line screen.rows

-- the offset of a widget, if it is a list
abbrev pub offset_in : ItemData → ℕ
offset_in (list l s) = s.offset
offset_in item = 0

-- the offset of the first widget
abbrev pub first_offset : List PlacedData → ℕ
first_offset [] = 0
first_offset (p ∷ ps) = offset_in p.item
