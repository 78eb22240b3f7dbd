-- Shadows: an object with `effect` and optionally `symbol`, `style` and `offset`.
use Rattle.std.specs.Prelude.{ℕ, pos, List, [], ◌∷◌, if◌then◌else◌, Option, Some, option_map, unwrap_or, codes}
use Rattle.std.specs.Str.{bytes_eq}
use Rattle.serde_json.specs.Data.{Data}
use Rattle.serde_json.specs.Find.{as_str}
use Rattle.tui_cells.specs.Symbols.{utf8}
use Rattle.tui_frames.specs.Shadow.{KindData, ShadowData, dimmed, overlay, symbol}
use Rattle.tui_json.specs.Members.{◌>>=◌, member, named, optional_member, pair_of}
use Rattle.tui_json.specs.Number.{i32_of}
use Rattle.tui_schema.specs.Kinds.Style.{style_member}
use Rattle.tui_schema.specs.Kinds.Symbol.{symbol_of}

-- the effects that need only a name
abbrev pub effect_names : List (List ℕ × KindData)
effect_names =
    (codes "overlay", overlay) ∷ (codes "dimmed", dimmed) ∷ (codes "block", symbol (utf8 "█")) ∷ (codes "light_shade", symbol (utf8 "░"))
    ∷ (codes "medium_shade", symbol (utf8 "▒")) ∷ (codes "dark_shade", symbol (utf8 "▓")) ∷ []

-- an effect by its name; the effect `symbol` needs the member `symbol` too
abbrev pub effect_by : List ℕ → Data → Option KindData
effect_by name d =
    if bytes_eq name (codes "symbol") then (do
      text ← member symbol_of (codes "symbol") d
      Some (symbol text))
    else named effect_names name

-- the name of an effect
unfoldable pub effect_named : Data → Option (List ℕ)
effect_named d = do
  name ← as_str d
  if bytes_eq name (codes "symbol") then Some name else option_map (λ kind. name) (named effect_names name)

unfoldable pub effect_of : Data → Option KindData
effect_of d = do
  name ← member as_str (codes "effect") d
  effect_by name d

unfoldable pub shadow_of : Data → Option ShadowData
shadow_of d = do
  effect ← effect_of d
  style ← style_member (codes "style") d
  offset ← optional_member (pair_of i32_of i32_of) (codes "offset") d
  Some (record {
    kind = effect;
    style = style;
    offset = let by = unwrap_or offset (pos 1, pos 1) in record { x = by.0; y = by.1 };
  })
