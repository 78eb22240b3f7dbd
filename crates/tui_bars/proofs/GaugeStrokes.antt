-- The strokes of gauges, one after another.
use Rattle.std.proofs.Common.{◌≡◌, ℕ, ◌-◌, ◌*◌, ◌/◌, ◌∙◌, ap, ap₂, subst, List, [], ◌∷◌, ◌++◌, Result, OnOk}
use Rattle.tui_cells.specs.declared.position.Position.{Position}
use Rattle.tui_cells.specs.declared.rect.Rect.{Rect}
use Rattle.tui_cells.specs.declared.style.Style.{Style}
use Rattle.tui_cells.specs.Buffer.{Screen}
use Rattle.tui_cells.specs.Cell.{set_style, space}
use Rattle.tui_cells.specs.Layers.{KeptOutside, Layer, Painted, stroke}
use Rattle.tui_cells.specs.Rect.{covers, right_of}
use Rattle.tui_cells.proofs.Painting.{KeptOutside-then, Painted-kept, Painted-then}
use Rattle.tui_cells.specs.Stays.{StayIn-stroke}
use Rattle.tui_frames.specs.Space.{past}
use Rattle.tui_text.proofs.Elements.{on_ok}
use Rattle.tui_text.specs.Painting.{cells_at}
use Rattle.tui_text.specs.Setting.{set_layers}
use Rattle.tui_text.specs.Span.{SpanData}
use Rattle.tui_bars.specs.Areas.{fill_layers}
use Rattle.tui_bars.specs.Gauge.{GaugeData, filled_area, filled_style, full, label_area, label_place, label_width, labelled_layers, tip_layers, swapped_style}
use Rattle.tui_bars.specs.LineGauge.{LineGaugeData, bar_layers, label_end, label_layers, line_gauge_layers}
use Rattle.tui_bars.specs.Percent.{fill_of}

-- strokes, and then those of a call that may fail
pub ok_then : {T E : Type 0} (result : Result T E) (ms : List Layer) (c : Screen) {ls : List Layer} {a b : Screen} →
    Painted ls a b → OnOk result (Painted ms b c) → OnOk result (Painted (ls ++ ms) a c)
ok_then result ms c p q = on_ok result (λ r. Painted-then p r) q

-- the five strokes of a gauge with a label
pub labelled_painted : (area : Rect) (g : GaugeData) (label : SpanData) (filled swapped : Style) (fill width room : ℕ) (first under : Rect) (place : Position) (a b c d e f : Screen) →
    fill ≡ fill_of g.use_unicode area.width g.num g.den → width ≡ label_width area label → room ≡ width → under ≡ label_area area fill width → place ≡ label_place area width →
    first ≡ filled_area area fill → filled ≡ filled_style g.gauge_style → swapped ≡ swapped_style g.gauge_style →
    Painted (stroke (covers area) (set_style g.gauge_style)) a b → Painted (fill_layers area first full filled) b c → Painted (fill_layers area under space swapped) c d →
    Painted (tip_layers g area fill) d e → Painted (set_layers area place (label ∷ []) room) e f → Painted (labelled_layers g label area) a f
unfolding labelled_layers
labelled_painted area g label filled swapped fill width room first under place a b c d e f fs ws ms us os is ls ts p q r s t =
    let q1 = subst (λ (x : Rect). Painted (fill_layers area x full filled) b c) (is ∙ ap (filled_area area) fs) q in
    let q2 = subst (λ (x : Style). Painted (fill_layers area (filled_area area (fill_of g.use_unicode area.width g.num g.den)) full x) b c) ls q1 in
    let r1 = subst (λ (x : Rect). Painted (fill_layers area x space swapped) c d) (us ∙ ap₂ (label_area area) fs ws) r in
    let r2 = subst (λ (x : Style). Painted (fill_layers area (label_area area (fill_of g.use_unicode area.width g.num g.den) (label_width area label)) space x) c d) ts r1 in
    let s1 = subst (λ (n : ℕ). Painted (tip_layers g area n) d e) fs s in
    let t1 = subst (λ (n : ℕ). Painted (set_layers area place (label ∷ []) n) e f) (ms ∙ ws) t in
    let t2 = subst (λ (x : Position). Painted (set_layers area x (label ∷ []) (label_width area label)) e f) (os ∙ ap (label_place area) ws) t1 in
    Painted-then (Painted-then (Painted-then (Painted-then p q2) r2) s1) t2

-- the same strokes change nothing outside the area
pub dressed_then : (area : Rect) (style : Style) (a b c : Screen) → Painted (stroke (covers area) (set_style style)) a b → KeptOutside (covers area) b c → KeptOutside (covers area) a c
dressed_then area style a b c p k = KeptOutside-then (Painted-kept (StayIn-stroke (covers area) (set_style style) (λ x y out. out)) p) k

pub bar_painted : {T E : Type 0} (result : Result T E) (area : Rect) (g : LineGaugeData) (start columns count x w : ℕ) (filled rest : Rect) (a b c : Screen) →
    columns ≡ right_of area - start → count ≡ columns * g.num / g.den → x ≡ past start count → w ≡ columns - count →
    filled ≡ cells_at start area.y count → rest ≡ cells_at x area.y w →
    Painted (fill_layers area filled g.filled g.filled_style) a b → OnOk result (Painted (fill_layers area rest g.unfilled g.unfilled_style) b c) →
    OnOk result (Painted (bar_layers g area start) a c)
unfolding bar_layers
bar_painted result area g start columns count x w filled rest a b c cs ns xs ws fs rs p q =
    rw (← cs, ← ns, ← xs, ← ws, ← fs, ← rs) (ok_then result _ _ p q)

pub line_gauge_painted : {T E : Type 0} (result : Result T E) (area : Rect) (g : LineGaugeData) (end start : ℕ) (a b c : Screen) →
    end ≡ label_end g area → start ≡ past end 1 →
    Painted (label_layers g area) a b → OnOk result (Painted (bar_layers g area start) b c) → OnOk result (Painted (line_gauge_layers g area) a c)
line_gauge_painted result area g end start a b c es ss p q =
    let s : start ≡ past (label_end g area) 1 = ss ∙ ap (λ (n : ℕ). past n 1) es in ok_then result _ _ p (rw s at q)
