-- The names of widgets. Any other name is rejected.
use Rattle.std.specs.Prelude.{ℕ, List, [], ◌∷◌, Option, option_and_then, codes}
use Rattle.serde_json.specs.Data.{Data}
use Rattle.serde_json.specs.Find.{as_str}
use Rattle.tui_schema.specs.declared.items.widget.Widget.{Widget}
use Rattle.tui_schema.specs.declared.items.widget.Widget.TheVariants as widgets
use Rattle.tui_json.specs.Members.{named}

-- each widget by its name
abbrev pub widget_names : List (List ℕ × Widget)
widget_names = (codes "clear", widgets.Clear) ∷ (codes "fill", widgets.Fill) ∷ (codes "block", widgets.Block)
    ∷ (codes "paragraph", widgets.Paragraph) ∷ (codes "list", widgets.List) ∷ (codes "table", widgets.Table) ∷ (codes "tabs", widgets.Tabs)
    ∷ (codes "scrollbar", widgets.Scrollbar) ∷ (codes "gauge", widgets.Gauge) ∷ (codes "line_gauge", widgets.LineGauge)
    ∷ (codes "bar_chart", widgets.BarChart) ∷ (codes "sparkline", widgets.Sparkline) ∷ (codes "monthly", widgets.Monthly)
    ∷ (codes "logo", widgets.Logo) ∷ []

unfoldable pub widget_of : Data → Option Widget
widget_of d = option_and_then (named widget_names) (as_str d)
