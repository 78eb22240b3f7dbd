-- A gauge as plain data, and its strokes.
use Rattle.std.specs.Prelude.{
  ⊤,
  ℕ,
  ◌+◌,
  ◌-◌,
  ◌/◌,
  ◌==◌,
  ◌&&◌,
  min,
  nat_lt,
  Bool,
  false,
  List,
  [],
  ◌∷◌,
  ◌++◌,
  Some,
  None,
  Option,
  option_map,
  unwrap_or,
  codes,
  decimal,
  if◌then◌else◌,
}
use Rattle.tui_cells.specs.declared.color.Color.TheVariants.{Reset}
use Rattle.tui_cells.specs.declared.position.Position.{Position}
use Rattle.tui_cells.specs.declared.rect.Rect.{Rect}
use Rattle.tui_cells.specs.declared.style.Style.{Style}
use Rattle.tui_cells.specs.Cell.{set_style, space}
use Rattle.tui_cells.specs.Layers.{Layer, stroke}
use Rattle.tui_cells.specs.Rect.{covers}
use Rattle.tui_cells.specs.Style.{no_style}
use Rattle.tui_frames.specs.Block.{BlockData, block_data}
use Rattle.tui_frames.specs.Space.{past}
use Rattle.tui_text.specs.Setting.{AreAllocationFree, set_layers}
use Rattle.tui_text.specs.Span.{SpanData, raw_span, span_data}
use Rattle.tui_text.specs.Width.{span_width}
use Rattle.tui_bars.specs.Areas.{fill_layers}
use Rattle.tui_bars.specs.Percent.{eighths_of, fill_of, percent_of}
use Rattle.tui_bars.specs.declared.gauge.Gauge.{Gauge}

-- a gauge as plain data
pub record GaugeData : Type 0 where
  pub block : Option BlockData
  pub num : ℕ
  pub den : ℕ
  pub label : Option SpanData
  pub style : Style
  pub gauge_style : Style
  pub use_unicode : Bool

-- a gauge of the code as plain data
abbrev pub gauge_data : Gauge → GaugeData
gauge_data g = record {
  block = option_map block_data g.block;
  num = g.share.num;
  den = g.share.den;
  label = option_map span_data g.label;
  style = g.style;
  gauge_style = g.gauge_style;
  use_unicode = g.use_unicode;
}

-- a gauge with nothing filled and nothing else set
abbrev pub empty_gauge : GaugeData
empty_gauge = record { block = None; num = 0; den = 1; label = None; style = no_style; gauge_style = no_style; use_unicode = false }

-- the style of filled cells, which sets both colours
abbrev pub filled_style : Style → Style
filled_style s = record no_style { fg = Some (unwrap_or s.fg Reset); bg = Some (unwrap_or s.bg Reset) }

-- the style of filled cells with foreground and background swapped
abbrev pub swapped_style : Style → Style
swapped_style s = record no_style { fg = Some (unwrap_or s.bg Reset); bg = Some (unwrap_or s.fg Reset) }

-- █ in UTF-8
abbrev pub full : List ℕ
full = 0xe2 ∷ 0x96 ∷ 0x88 ∷ []

-- the symbol of a cell of which k eighths are filled from the left: a space for 0, ▏ (E2 96 8F) for 1, and so on to █
-- (E2 96 88) from 8 on
unfoldable pub eighth : ℕ → List ℕ
eighth k = if k == 0 then space else 0xe2 ∷ 0x96 ∷ (0x90 - min k 8) ∷ []

-- the first columns of an area, which are filled
abbrev pub filled_area : Rect → ℕ → Rect
filled_area area fill = record area { width = fill }

-- the column after the filled ones
abbrev pub tip_area : Rect → ℕ → Rect
tip_area area fill = record area { x = past area.x fill; width = 1 }

-- the label that is set, otherwise the percentage
abbrev pub label_of : GaugeData → SpanData
label_of g = unwrap_or g.label (raw_span (decimal (percent_of g.num g.den) ++ codes "%"))

-- the width of a label in columns, at most the width of the area
abbrev pub label_width : Rect → SpanData → ℕ
label_width area label = min (span_width false label) area.width

-- where a label of `width` columns starts
abbrev pub label_place : Rect → ℕ → Position
label_place area width = record { x = past area.x ((area.width - width) / 2); y = past area.y (area.height / 2) }

-- the filled cells under a label of `width` columns and in the column after it
abbrev pub label_area : Rect → ℕ → ℕ → Rect
label_area area fill width = record {
  x = past area.x ((area.width - width) / 2);
  y = past area.y (area.height / 2);
  width = min (width + 1) (fill - (area.width - width) / 2);
  height = 1;
}

-- with Unicode symbols, the partly filled column
unfoldable pub tip_layers : GaugeData → Rect → ℕ → List Layer
tip_layers g area fill =
    if g.use_unicode && nat_lt g.num g.den then fill_layers area (tip_area area fill) (eighth (eighths_of area.width g.num g.den)) no_style else []

-- with a label, in this order: the gauge's style, the filled cells, the filled cells under the label with swapped
-- colours, the partly filled column, and the label
unfoldable pub labelled_layers : GaugeData → SpanData → Rect → List Layer
labelled_layers g label area =
    let fill = fill_of g.use_unicode area.width g.num g.den in
    let width = label_width area label in
    stroke (covers area) (set_style g.gauge_style)
    ++ fill_layers area (filled_area area fill) full (filled_style g.gauge_style)
    ++ fill_layers area (label_area area fill width) space (swapped_style g.gauge_style)
    ++ tip_layers g area fill
    ++ set_layers area (label_place area width) (label ∷ []) width

-- the strokes inside the block
abbrev pub gauge_layers : GaugeData → Rect → List Layer
gauge_layers g area = labelled_layers g (label_of g) area

-- no label of its own, or one that is written without allocating
abbrev pub IsAllocationFreeLabel : Option SpanData → Type 0
IsAllocationFreeLabel None = ⊤
IsAllocationFreeLabel (Some label) = AreAllocationFree (label ∷ [])
