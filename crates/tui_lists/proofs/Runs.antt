-- The strokes of a scrollbar, run after run.
use Rattle.std.proofs.Common.{◌≡◌, ℕ, ◌+◌, ◌-◌, ◌<◌, ◌≤◌, suc, List, Option, Some, arith, Result, OnOk}
use Rattle.tui_cells.specs.declared.position.Position.{Position}
use Rattle.tui_cells.specs.declared.rect.Rect.{Rect}
use Rattle.tui_cells.specs.declared.style.Style.{Style}
use Rattle.tui_cells.specs.Buffer.{Screen}
use Rattle.tui_cells.specs.Layers.{Painted}
use Rattle.tui_cells.proofs.Painting.{Painted-none, Painted-then}
use Rattle.tui_lists.specs.Orientation.{along}
use Rattle.tui_lists.specs.Scrollbar.{ScrollbarData}
use Rattle.tui_lists.specs.ScrollbarStrokes.{bar_layers, places, run_layers, sign_layers}
use Rattle.tui_lists.specs.declared.scrollbar.orientation.ScrollbarOrientation.{ScrollbarOrientation}
use Rattle.tui_lists.specs.declared.scrollbar.parts.TrackParts.{TrackParts}
use Rattle.tui_text.proofs.Elements.{on_ok}

-- one more cell
pub run_more : (o : ScrollbarOrientation) (clip : Rect) (symbol : Option (List ℕ)) (style : Style) (first i n : ℕ) (at : Position) (a b c : Screen) → i < n →
    at ≡ along o clip (first + i) → Painted (sign_layers clip at symbol style) a b →
    Painted (run_layers o clip symbol style (first + (i + 1)) (n - (i + 1))) b c → Painted (run_layers o clip symbol style (first + i) (n - i)) a c
unfolding run_layers
run_more o clip symbol style first i n at a b c lt here p q =
    let e : n - i ≡ suc (n - (i + 1)) = omega arith in
    let f : first + (i + 1) ≡ first + i + 1 = omega arith in
    rw (e, ← here) (Painted-then p (rw f at q))

pub run_done : (o : ScrollbarOrientation) (clip : Rect) (symbol : Option (List ℕ)) (style : Style) (i first n : ℕ) (a : Screen) → n ≤ i →
    Painted (run_layers o clip symbol style first (n - i)) a a
unfolding run_layers
run_done o clip symbol style i first n a le = let e : n - i ≡ 0 = omega arith in rw e (Painted-none a)

-- the five runs are the bar
pub bar_painted : {T E : Type 0} (result : Result T E) (s : ScrollbarData) (clip : Rect) (p : TrackParts) (start last : ℕ) (a b c d e f : Screen) →
    start ≡ places s.begin → last ≡ places s.end →
    Painted (run_layers s.orientation clip s.begin s.begin_style 0 start) a b →
    Painted (run_layers s.orientation clip s.track s.track_style start p.start) b c →
    Painted (run_layers s.orientation clip (Some s.thumb) s.thumb_style (start + p.start) p.thumb) c d →
    Painted (run_layers s.orientation clip s.track s.track_style (start + p.start + p.thumb) p.end) d e →
    OnOk result (Painted (run_layers s.orientation clip s.end s.end_style (start + p.start + p.thumb + p.end) last) e f) →
    OnOk result (Painted (bar_layers s clip p) a f)
unfolding bar_layers
bar_painted result s clip p start last a b c d e f ss ls q r t u v =
    on_ok result (λ w. rw (← ss, ← ls) (Painted-then q (Painted-then r (Painted-then t (Painted-then u w))))) v
