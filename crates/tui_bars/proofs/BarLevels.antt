-- The cells of a vertical bar, row by row.
use Rattle.std.proofs.Common.{◌≡◌, ℕ, ◌+◌, ◌-◌, ◌<◌, ◌≤◌, suc, List, ◌∙◌, ap, arith}
use Rattle.tui_cells.specs.declared.rect.Rect.{Rect}
use Rattle.tui_cells.specs.declared.style.Style.{Style}
use Rattle.tui_cells.specs.Buffer.{Screen}
use Rattle.tui_cells.specs.Layers.{Painted}
use Rattle.tui_cells.specs.Symbols.{BarData as BarSymbols}
use Rattle.tui_cells.proofs.Painting.{Painted-none, Painted-then}
use Rattle.tui_bars.specs.Areas.{fill_layers}
use Rattle.tui_bars.specs.Levels.{level, levels_layers, row_at}

-- one more row
pub level_more : (s : BarSymbols) (clip area : Rect) (style : Style) (up n left rest : ℕ) (symbol : List ℕ) (row : Rect) (a b d : Screen) → up < n →
    rest ≡ left - 8 → symbol ≡ level s left → row ≡ row_at area (n - 1 - up) → Painted (fill_layers clip row symbol style) a b →
    Painted (levels_layers s clip area style rest (n - (up + 1))) b d → Painted (levels_layers s clip area style left (n - up)) a d
unfolding levels_layers
level_more s clip area style up n left rest symbol row a b d lt ls ss rs p q =
    let e : n - up ≡ suc (n - (up + 1)) = omega arith in
    let r : row ≡ row_at area (n - (up + 1)) = rs ∙ ap (row_at area) (omega arith) in
    rw (e, ← ss, ← r, ← ls) (Painted-then p q)

pub level_done : (s : BarSymbols) (clip area : Rect) (style : Style) (up n left : ℕ) (a : Screen) → n ≤ up → Painted (levels_layers s clip area style left (n - up)) a a
unfolding levels_layers
level_done s clip area style up n left a le = let e : n - up ≡ 0 = omega arith in rw e (Painted-none a)
