-- The screen of a pager, drawn part by part.
use Rattle.std.proofs.Common.{◌≡◌, ℕ, ◌-◌, List, length, subst}
use Rattle.tui_cells.specs.Buffer.{IsFilled, IsScreen, Screen}
use Rattle.tui_cells.specs.Cell.{blank}
use Rattle.tui_cells.specs.Layers.{Painted}
use Rattle.tui_cells.specs.declared.rect.Rect.{Rect}
use Rattle.tui_cells.proofs.Painting.{Painted-then}
use Rattle.tui_lists.specs.List.{ListData}
use Rattle.tui_lists.specs.ListStrokes.{list_layers}
use Rattle.tui_lists.specs.ScrollbarStrokes.{scrollbar_layers}
use Rattle.tui_para.specs.Paragraph.{paragraph_of}
use Rattle.tui_para.specs.Rendering.{paragraph_layers}
use Rattle.tui_text.specs.Text.{raw_text}
use Rattle.tui_pager_lib.specs.Pager.{PagerData}
use Rattle.tui_pager_lib.specs.Screen.{IsDrawnOnBlank, bar, bar_area, bar_state, body_area, body_of, body_paragraph, last_row, list_state, page_area, pager_layers, last_row_text, metrics_of, titles_area, titles_list}
use Rattle.tui_pager_lib.specs.Steps.{max_line_of}
use Rattle.tui_pager_lib.proofs.Placing.{drawn}

pub pager_drawn : (p : PagerData) (titles : ListData) (body : List ℕ) (most count : ℕ) (filled : Rect) (a b c d e : Screen) →
    titles ≡ titles_list p.entries → body ≡ body_of p.entries p.state.selected →
    most ≡ max_line_of (metrics_of p.entries p.width p.height) p.state.selected → count ≡ length p.entries →
    filled ≡ page_area p.width p.height → IsFilled filled blank a →
    Painted (list_layers titles (list_state p.state) (titles_area p.width p.height)) a b →
    Painted (paragraph_layers (body_paragraph body p.state.line) (body_area p.width p.height)) b c →
    Painted (scrollbar_layers bar (bar_state (p.height - 3) most p.state.line) (bar_area p.width p.height)) c d →
    Painted (paragraph_layers (paragraph_of (raw_text (last_row_text p.state.selected count))) (last_row p.width p.height)) d e → IsScreen e →
    IsDrawnOnBlank (pager_layers p) (page_area p.width p.height) e
unfolding pager_layers
pager_drawn p titles body most count filled a b c d e t o m n f first titles_there body_there bar_there place_there shape =
    let q = subst (λ (l : ListData). Painted (list_layers l (list_state p.state) (titles_area p.width p.height)) a b) t titles_there in
    let r = subst (λ (x : List ℕ). Painted (paragraph_layers (body_paragraph x p.state.line) (body_area p.width p.height)) b c) o body_there in
    let s = subst (λ (k : ℕ). Painted (scrollbar_layers bar (bar_state (p.height - 3) k p.state.line) (bar_area p.width p.height)) c d) m bar_there in
    let u = subst (λ (k : ℕ). Painted (paragraph_layers (paragraph_of (raw_text (last_row_text p.state.selected k))) (last_row p.width p.height)) d e)
    n place_there in
    drawn filled (page_area p.width p.height) a e f first (Painted-then q (Painted-then r (Painted-then s u))) shape
