-- The fields of `gauge` and of `line_gauge`.
use Rattle.std.specs.Prelude.{ℕ, List, false, Bool, nat_le, Option, Some, None, Result, Ok, Err, unwrap_or, if◌then◌else◌}
use Rattle.std.specs.Option.{option_or}
use Rattle.serde_json.specs.Data.{Data}
use Rattle.serde_json.specs.Find.{as_bool}
use Rattle.tui_cells.specs.declared.style.Style.{Style}
use Rattle.tui_bars.specs.Gauge.{GaugeData, empty_gauge}
use Rattle.tui_bars.specs.LineGauge.{LineGaugeData, empty_line_gauge}
use Rattle.tui_layout.specs.declared.fraction.Fraction.{Fraction}
use Rattle.tui_text.specs.Span.{SpanData}
use Rattle.tui_schema.specs.declared.field.Field.{Field}
use Rattle.tui_schema.specs.declared.field.Field.TheVariants as fields
use Rattle.tui_schema.specs.Items.Frame.{frame_in, style_in}
use Rattle.tui_schema.specs.Kinds.Fraction.{fraction_of, is_share}
use Rattle.tui_schema.specs.Kinds.Line.{line_of}
use Rattle.tui_json.specs.Number.{u16_of}
use Rattle.tui_schema.specs.Kinds.Span.{span_of}
use Rattle.tui_schema.specs.Kinds.Symbol.{symbol_of}
use Rattle.tui_json.specs.Refusals.{◌>>=◌}
use Rattle.tui_schema.specs.Refusals.{optional}
use Rattle.tui_schema.specs.declared.bad_field.BadField.{BadField}

-- a value if a test holds, or else the rejection of a field
abbrev pub if_holds : {A : Type 0} → Bool → Option ℕ → Field → A → Result A BadField
if_holds test i f x = if test then Ok x else Err (record { item = i; field = f })

-- a gauge with a share, if one is given
abbrev pub gauge_with_ratio : Option ℕ → GaugeData → Option Fraction → Result GaugeData BadField
gauge_with_ratio i g None = Ok g
gauge_with_ratio i g (Some f) = if_holds (is_share f) i fields.Ratio (record g { num = f.num; den = f.den })

-- a gauge with a percentage, if one is given
abbrev pub gauge_with_percent : Option ℕ → GaugeData → Option ℕ → Result GaugeData BadField
gauge_with_percent i g None = Ok g
gauge_with_percent i g (Some percent) = if_holds (nat_le percent 100) i fields.Percent (record g { num = percent; den = 100 })

-- `percent` overrides `ratio`, but both are tested
unfoldable pub gauge_with_share : Option ℕ → Data → Result GaugeData BadField
gauge_with_share i d = do
  ratio ← optional fraction_of i fields.Ratio d
  with_share ← gauge_with_ratio i empty_gauge ratio
  percent ← optional u16_of i fields.Percent d
  gauge_with_percent i with_share percent

-- its label, and how it is filled
unfoldable pub filling_of : Option ℕ → Data → Result (Option SpanData × Style × Bool) BadField
filling_of i d = do
  label ← optional span_of i fields.Label d
  style ← style_in i fields.GaugeStyle d
  use_unicode ← optional as_bool i fields.UseUnicode d
  Ok (label, style, unwrap_or use_unicode false)

-- all fields of a gauge
unfoldable pub shown_gauge : Option ℕ → Data → Result GaugeData BadField
shown_gauge i d = do
  frame ← frame_in i d
  gauge ← gauge_with_share i d
  filling ← filling_of i d
  Ok (record gauge {
    block = option_or frame.0 gauge.block;
    style = frame.1;
    label = option_or filling.0 gauge.label;
    gauge_style = filling.1;
    use_unicode = filling.2;
  })

-- a line gauge with a share
abbrev pub line_with_ratio : Option ℕ → LineGaugeData → Option Fraction → Result LineGaugeData BadField
line_with_ratio i g None = Ok g
line_with_ratio i g (Some f) = if_holds (is_share f) i fields.Ratio (record g { num = f.num; den = f.den })

-- a line gauge with its share
unfoldable pub line_gauge_with_share : Option ℕ → Data → Result LineGaugeData BadField
line_gauge_with_share i d = do
  ratio ← optional fraction_of i fields.Ratio d
  line_with_ratio i empty_line_gauge ratio

-- its symbols and their styles
unfoldable pub strokes_of : Option ℕ → Data → Result (Option (List ℕ) × Option (List ℕ) × Style × Style) BadField
strokes_of i d = do
  filled ← optional symbol_of i fields.FilledSymbol d
  unfilled ← optional symbol_of i fields.UnfilledSymbol d
  filled_style ← style_in i fields.FilledStyle d
  unfilled_style ← style_in i fields.UnfilledStyle d
  Ok (filled, unfilled, filled_style, unfilled_style)

-- all fields of a line gauge
unfoldable pub shown_line_gauge : Option ℕ → Data → Result LineGaugeData BadField
shown_line_gauge i d = do
  frame ← frame_in i d
  gauge ← line_gauge_with_share i d
  label ← optional line_of i fields.Label d
  strokes ← strokes_of i d
  Ok (record gauge {
    block = option_or frame.0 gauge.block;
    style = frame.1;
    label = option_or label gauge.label;
    filled = unwrap_or strokes.0 gauge.filled;
    unfilled = unwrap_or strokes.1 gauge.unfilled;
    filled_style = strokes.2;
    unfilled_style = strokes.3;
  })
