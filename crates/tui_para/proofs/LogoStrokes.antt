-- The strokes of the logo, one line after the other.
use Rattle.std.proofs.Common.{◌≡◌, ℕ, List, None, Result, OnOk, [], ◌∷◌, refl}
use Rattle.tui_cells.specs.declared.rect.Rect.{Rect}
use Rattle.tui_cells.specs.Buffer.{Screen}
use Rattle.tui_cells.specs.Cell.{set_style}
use Rattle.tui_cells.specs.Layers.{Painted, stroke}
use Rattle.tui_cells.specs.Rect.{covers}
use Rattle.tui_cells.specs.Style.{no_style}
use Rattle.tui_cells.proofs.Painting.{Painted-then}
use Rattle.tui_text.specs.Line.{raw_line}
use Rattle.tui_text.specs.Painting.{below, row_layers}
use Rattle.tui_text.specs.declared.alignment.Alignment.TheVariants.{Left}
use Rattle.tui_text.proofs.Elements.{on_ok}
use Rattle.tui_text.proofs.TextRows.{lines_done, lines_more}
use Rattle.tui_para.specs.declared.size.Size.{Size}
use Rattle.tui_para.specs.Logo.{lower_line, logo_layers, upper_line}

pub logo_painted : {T E : Type 0} (result : Result T E) (clip rest : Rect) (size : Size) (above under : List ℕ) (a b c d : Screen) →
    above ≡ upper_line size → under ≡ lower_line size → rest ≡ below clip →
    Painted (stroke (covers clip) (set_style no_style)) a b → Painted (row_layers clip Left (raw_line above)) b c →
    OnOk result (Painted (row_layers rest Left (raw_line under)) c d) → OnOk result (Painted (logo_layers size clip) a d)
logo_painted result clip rest size above under a b c d e f g p q r =
    on_ok result (λ last. Painted-then p
    (lines_more clip (below clip) None (raw_line (upper_line size)) (raw_line (lower_line size) ∷ []) _ b c d refl refl (rw e at q)
    (lines_more (below clip) (below (below clip)) None (raw_line (lower_line size)) [] _ c d d refl refl (rw (g, f) at last) (lines_done _ None [] d refl)))) r
