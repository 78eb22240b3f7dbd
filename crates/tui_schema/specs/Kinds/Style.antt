-- Styles: objects of colours and modifiers.
use Rattle.std.specs.Prelude.{ℕ, List, Option, Some, None, codes, unwrap_or}
use Rattle.serde_json.specs.Data.{Data}
use Rattle.serde_json.specs.Find.{as_object}
use Rattle.tui_cells.specs.declared.color.Color.{Color}
use Rattle.tui_cells.specs.declared.modifier.Modifier.{Modifier}
use Rattle.tui_cells.specs.declared.style.Style.{Style}
use Rattle.tui_cells.specs.Style.{no_modifier, no_style, other_modifiers}
use Rattle.tui_json.specs.Members.{◌>>=◌, optional_member}
use Rattle.tui_schema.specs.Kinds.Color.{color_of}
use Rattle.tui_schema.specs.Kinds.Modifier.{modifiers_of}

-- no modifier if none is given
abbrev pub modifiers_or_none : Option Modifier → Modifier
modifiers_or_none None = no_modifier
modifiers_or_none (Some modifiers) = modifiers

-- colours with modifiers that are added first and then removed; what is in both lists is removed
abbrev pub styled : Option Color → Option Color → Modifier → Modifier → Style
styled fg bg added removed = record { fg = fg; bg = bg; add_modifier = other_modifiers added removed; sub_modifier = removed }

unfoldable pub style_of : Data → Option Style
style_of d = do
  members ← as_object d
  fg ← optional_member color_of (codes "fg") d
  bg ← optional_member color_of (codes "bg") d
  add ← optional_member modifiers_of (codes "add") d
  sub ← optional_member modifiers_of (codes "sub") d
  Some (styled fg bg (modifiers_or_none add) (modifiers_or_none sub))

-- the member of this name as a style; empty if it is absent or null
unfoldable pub style_member : List ℕ → Data → Option Style
style_member name d = do
  style ← optional_member style_of name d
  Some (unwrap_or style no_style)
