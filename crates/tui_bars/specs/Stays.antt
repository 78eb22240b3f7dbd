-- Laws that the drawings of gauges and sparklines carry: their strokes stay in their areas.
use Rattle.std.specs.Prelude.{ℕ, Bool, true, false, zero, suc, ◌+◌, ◌-◌, List, [], ◌∷◌, Option, None, Some, take, if◌then◌else◌}
use Rattle.tui_cells.specs.declared.rect.Rect.{Rect}
use Rattle.tui_cells.specs.declared.style.Style.{Style}
use Rattle.tui_cells.specs.Cell.{set_style, write}
use Rattle.tui_cells.specs.Layers.{Layer, StayIn}
use Rattle.tui_cells.specs.Rect.{covers, intersection_of}
use Rattle.tui_cells.specs.Stays.{StayIn-append, StayIn-none, StayIn-over, StayIn-stroke}
use Rattle.tui_cells.proofs.Regions.{StayIn-wider, outside_both}
use Rattle.tui_frames.specs.Block.{BlockData}
use Rattle.tui_frames.specs.Footprint.{footprint_if}
use Rattle.tui_frames.specs.InBlock.{inner_of}
use Rattle.tui_frames.specs.InBlockStays.{block_stays_if, clip_stays, inner_stays}
use Rattle.tui_text.proofs.SetStays.{set_stays}
use Rattle.tui_text.specs.Span.{SpanData}
use Rattle.tui_bars.specs.Areas.{fill_layers}
use Rattle.tui_bars.specs.Framed.{framed_layers}
use Rattle.tui_bars.specs.Sparkline.{SparklineBarData, SparklineData, bars_layers, sparkline_layers, value_layers}
use Rattle.tui_bars.specs.Levels.{levels_layers, vertical_bar_layers}
use Rattle.tui_cells.specs.Symbols.{BarData as BarSymbols}
use Rattle.tui_bars.specs.Gauge.{GaugeData, gauge_layers, label_of, labelled_layers, tip_layers}
use Rattle.tui_bars.specs.LineGauge.{LineGaugeData, bar_layers, line_gauge_layers}

-- filling an area changes only cells of the clip
pub fill_stays : (clip area : Rect) (symbol : List ℕ) (style : Style) → StayIn (covers clip) (fill_layers clip area symbol style)
unfolding fill_layers
fill_stays clip area symbol style =
    StayIn-wider (outside_both clip area) (StayIn-over (covers (intersection_of clip area)) (write symbol ∷ set_style style ∷ []))

-- strokes that are drawn under a condition
pub then_stays : {r : ℕ → ℕ → Bool} {ls : List Layer} (b : Bool) → StayIn r ls → StayIn r (if b then ls else [])
then_stays true p = p
then_stays false p = StayIn-none

-- a widget with a style and an optional block, whose content stays inside
pub framed_stays : (block : Option BlockData) (style : Style) (content : Rect → List Layer) (clip : Rect) →
    StayIn (covers (inner_of block clip)) (content (inner_of block clip)) → StayIn (footprint_if block clip) (framed_layers block style content clip)
framed_stays block style content clip inside = StayIn-append
    (StayIn-append (clip_stays block clip (StayIn-stroke (covers clip) (set_style style) (λ x y out. out))) (block_stays_if block clip))
    (inner_stays block clip inside)

labelled_stays : (g : GaugeData) (label : SpanData) (area : Rect) → StayIn (covers area) (labelled_layers g label area)
unfolding labelled_layers tip_layers
labelled_stays g label area = StayIn-append (StayIn-append (StayIn-append (StayIn-append
    (StayIn-stroke (covers area) (set_style g.gauge_style) (λ x y out. out)) (fill_stays area _ _ _)) (fill_stays area _ _ _))
    (then_stays _ (fill_stays area _ _ _))) (set_stays area _ _ _)

-- a gauge changes only cells of its area
pub gauge_stays : (g : GaugeData) (area : Rect) → StayIn (covers area) (gauge_layers g area)
gauge_stays g area = labelled_stays g (label_of g) area

line_stays : (g : LineGaugeData) (area : Rect) (start : ℕ) → StayIn (covers area) (bar_layers g area start)
unfolding bar_layers
line_stays g area start = StayIn-append (fill_stays area _ _ _) (fill_stays area _ _ _)

-- a line gauge changes only cells of its area
pub line_gauge_stays : (g : LineGaugeData) (area : Rect) → StayIn (covers area) (line_gauge_layers g area)
line_gauge_stays g area = StayIn-append (set_stays area _ _ _) (line_stays g area _)

-- rows of a vertical bar
levels_stay : (s : BarSymbols) (clip area : Rect) (style : Style) (left n : ℕ) → StayIn (covers clip) (levels_layers s clip area style left n)
unfolding levels_layers
levels_stay s clip area style left zero = StayIn-none
levels_stay s clip area style left (suc n) = StayIn-append (fill_stays clip _ _ style) (levels_stay s clip area style (left - 8) n)

-- a vertical bar changes only cells of the clip
pub vertical_bar_stays : (s : BarSymbols) (clip area : Rect) (style : Style) (filled : ℕ) →
    StayIn (covers clip) (vertical_bar_layers s clip area style filled)
vertical_bar_stays s clip area style filled = levels_stay s clip area style filled area.height

value_stays : (s : SparklineData) (area column : Rect) (greatest : ℕ) (style : Option Style) (value : Option ℕ) →
    StayIn (covers area) (value_layers s area column greatest style value)
value_stays s area column greatest style None = fill_stays area column _ _
value_stays s area column greatest style (Some value) = vertical_bar_stays s.symbols area column _ _

bars_stay : (s : SparklineData) (area : Rect) (greatest i : ℕ) (bars : List SparklineBarData) →
    StayIn (covers area) (bars_layers s area greatest i bars)
unfolding bars_layers
bars_stay s area greatest i [] = StayIn-none
bars_stay s area greatest i (b ∷ bs) = StayIn-append (value_stays s area _ greatest b.style b.value) (bars_stay s area greatest (i + 1) bs)

-- a sparkline changes only cells of its area
pub sparkline_stays : (s : SparklineData) (area : Rect) → StayIn (covers area) (sparkline_layers s area)
sparkline_stays s area = bars_stay s area _ 0 (take area.width s.bars)
