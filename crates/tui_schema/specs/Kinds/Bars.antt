-- Bars of a chart, their groups, the bars of a sparkline, and the symbols of bars.
use Rattle.std.specs.Prelude.{ℕ, List, [], ◌∷◌, Option, None, Some, option_and_then, option_map, unwrap_or, codes}
use Rattle.serde_json.specs.Data.{Data, array, null, object}
use Rattle.serde_json.specs.Find.{as_str}
use Rattle.tui_cells.specs.Style.{no_style}
use Rattle.tui_cells.specs.Symbols.{BarData as BarSymbols, nine_levels, three_levels}
use Rattle.tui_bars.specs.BarChart.{BarData, GroupData, bar_of as new_bar}
use Rattle.tui_bars.specs.Sparkline.{SparklineBarData}
use Rattle.tui_schema.specs.Kinds.Line.{line_of}
use Rattle.tui_json.specs.Members.{◌>>=◌, list_of, member, named, optional_member}
use Rattle.tui_json.specs.Number.{u64_of}
use Rattle.tui_schema.specs.Kinds.Style.{style_of}

-- a number, or an object with `value`
unfoldable pub bar_of : Data → Option BarData
bar_of (object ms) = do
  value ← member u64_of (codes "value") (object ms)
  label ← optional_member line_of (codes "label") (object ms)
  style ← optional_member style_of (codes "style") (object ms)
  value_style ← optional_member style_of (codes "value_style") (object ms)
  text ← optional_member as_str (codes "text_value") (object ms)
  Some (record { value = value; label = label; style = unwrap_or style no_style; value_style = unwrap_or value_style no_style; text = text })
bar_of d = option_map new_bar (u64_of d)

-- an array of bars, or an object with `bars`
unfoldable pub group_of : Data → Option GroupData
group_of (array ds) = do
  bars ← list_of bar_of (array ds)
  Some (record { label = None; bars = bars })
group_of d = do
  bars ← member (list_of bar_of) (codes "bars") d
  label ← optional_member line_of (codes "label") d
  Some (record { label = label; bars = bars })

-- a number, null for no value, or an object
unfoldable pub sparkline_bar_of : Data → Option SparklineBarData
sparkline_bar_of null = Some (record { value = None; style = None })
sparkline_bar_of (object ms) = do
  value ← optional_member u64_of (codes "value") (object ms)
  style ← optional_member style_of (codes "style") (object ms)
  Some (record { value = value; style = style })
sparkline_bar_of d = option_map (λ value. record { value = Some value; style = None }) (u64_of d)

abbrev bar_set_names : List (List ℕ × BarSymbols)
bar_set_names = (codes "NineLevels", nine_levels) ∷ (codes "ThreeLevels", three_levels) ∷ []

unfoldable pub bar_set_of : Data → Option BarSymbols
bar_set_of d = option_and_then (named bar_set_names) (as_str d)
