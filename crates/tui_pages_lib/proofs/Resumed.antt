-- Drawing a cell from where it continues.
use Rattle.std.proofs.Common.{◌≡◌, ℕ, ◌+◌, ◌≤◌, List, [], ◌++◌, drop, Result, sym, ap, ◌∙◌, subst, true, arith}
use Rattle.std.specs.Prelude.{OnOk}
use Rattle.std.specs.Str.{IsCharBoundary}
use Rattle.tui_cells.specs.Buffer.{Screen}
use Rattle.tui_cells.specs.Cell.{set_style}
use Rattle.tui_cells.specs.Layers.{Painted, stroke}
use Rattle.tui_cells.specs.Rect.{bottom_of, covers, intersection_of}
use Rattle.tui_cells.specs.Style.{no_style}
use Rattle.tui_cells.specs.declared.rect.Rect.{Rect}
use Rattle.tui_para.specs.Paragraph.{paragraph_of}
use Rattle.tui_para.specs.Rendering.{paragraph_layers}
use Rattle.tui_para.specs.Strokes.{glyph_lines_layers}
use Rattle.tui_line_places.proofs.RestLayers.{part_layers, rest_layers}
use Rattle.tui_line_places.specs.Parts.{HaveSameLines}
use Rattle.tui_pages_lib.specs.Starts.{ContinuesFrom, cell_lines}
use Rattle.tui_pages_lib.specs.Strokes.{cell_from, paragraph_in}
use Rattle.tui_text.specs.Text.{empty_text}
use Rattle.tui_text.specs.declared.alignment.Alignment.TheVariants.{Left}

-- a text without lines shows the same as a cell without further lines
none_layers : (line : ℕ) (cell : List ℕ) (clip : Rect) → drop line (cell_lines clip.width cell) ≡ [] →
    paragraph_layers (paragraph_of empty_text) clip ≡ paragraph_layers (cell_from line cell) clip
unfolding Rattle.tui_para.specs.Rendering.content_layers
none_layers line cell clip e = ap (λ lines. stroke (covers clip) (set_style no_style) ++ glyph_lines_layers clip clip.y lines) (sym e)

-- a prefix of the rest of a cell shows what the cell shows from that line on
pub rest_drawn : {T E : Type 0} (result : Result T E) (line start : ℕ) (cell rest shown : List ℕ) (clip area : Rect) (a b : Screen) →
    clip ≡ intersection_of area a.area → ContinuesFrom clip.width line cell start → IsCharBoundary cell start → rest ≡ drop start cell →
    HaveSameLines clip.width true clip.height rest shown →
    OnOk result (Painted (paragraph_in a.area area (cell_from 0 shown)) a b) → OnOk result (Painted (paragraph_in a.area area (cell_from line cell)) a b)
unfolding Rattle.tui_pages_lib.specs.Strokes.paragraph_in
rest_drawn result line start cell rest shown clip area a b at g some is same ok =
    let e : cell_lines clip.width rest ≡ drop line (cell_lines clip.width cell) = ap (cell_lines clip.width) is ∙ g.lines some in
    let far : bottom_of clip ≤ clip.y + clip.height = omega arith in
    subst (λ (c : Rect). OnOk result (Painted (paragraph_layers (cell_from line cell) c) a b)) at
    (subst (λ layers. OnOk result (Painted layers a b))
    (part_layers (cell_from 0 []) true clip.height rest shown clip far (same no_style Left) ∙ rest_layers (cell_from 0 []) true line cell rest clip e)
    (subst (λ (c : Rect). OnOk result (Painted (paragraph_layers (cell_from 0 shown) c) a b)) (sym at) ok))

pub none_drawn : {T E : Type 0} (result : Result T E) (line start : ℕ) (cell : List ℕ) (clip area : Rect) (a b : Screen) →
    clip ≡ intersection_of area a.area → ContinuesFrom clip.width line cell start → (IsCharBoundary cell start → ⊥) →
    OnOk result (Painted (paragraph_in a.area area (paragraph_of empty_text)) a b) → OnOk result (Painted (paragraph_in a.area area (cell_from line cell)) a b)
unfolding Rattle.tui_pages_lib.specs.Strokes.paragraph_in
none_drawn result line start cell clip area a b at g none ok =
    subst (λ (c : Rect). OnOk result (Painted (paragraph_layers (cell_from line cell) c) a b)) at
    (subst (λ layers. OnOk result (Painted layers a b)) (none_layers line cell clip (g.none none))
    (subst (λ (c : Rect). OnOk result (Painted (paragraph_layers (paragraph_of empty_text) c) a b)) (sym at) ok))
