-- Laws of lists: what is shown, and what a second drawing does.
use Rattle.std.proofs.Common.{◌≡◌, ℕ, ◌+◌, ◌-◌, ◌<◌, ◌≤◌, ◌==◌, ◌++◌, min, max, Bool, true, false, List, [], drop, length, get_or, Option, Some, None, if◌then◌else◌, refl, ◌∙◌, ap, subst, sym, arith}
use Rattle.std.proofs.lemmas.List.{length-map}
use Rattle.tui_cells.specs.declared.rect.Rect.{Rect}
use Rattle.tui_cells.specs.declared.style.Style.{Style}
use Rattle.tui_cells.specs.Cell.{Look, set_style, restyled}
use Rattle.tui_cells.specs.Layers.{Layer, layers_at, stroke}
use Rattle.tui_cells.specs.Rect.{covers, is_empty}
use Rattle.tui_cells.proofs.Painting.{layers_at-append}
use Rattle.tui_frames.specs.Block.{BlockData}
use Rattle.tui_frames.specs.InBlock.{block_layers_if, inner_of}
use Rattle.tui_frames.specs.Strokes.{block_layers}
use Rattle.tui_frames.proofs.Inside.{in_clip, inside}
use Rattle.tui_layout.proofs.Found.{window_is}
use Rattle.tui_layout.proofs.StableWindow as settling
use Rattle.tui_layout.specs.Found.{window_of}
use Rattle.tui_layout.specs.Sums.{total}
use Rattle.tui_layout.specs.Window.{cut_selection}
use Rattle.tui_layout.specs.declared.window.Window.{Window}
use Rattle.tui_lists.specs.Laws.{ItemsAreOverStyles, SelectedIsShown, RedrawKeepsStrokes, under_items}
use Rattle.tui_lists.specs.List.{ListData, list_after, list_moved, list_window}
use Rattle.tui_lists.specs.ListItem.{heights_of, item_height}
use Rattle.tui_lists.specs.ListState.{default_state}
use Rattle.tui_lists.specs.ListStrokes.{content_layers, items_layers}
use Rattle.tui_lists.specs.declared.list.state.ListState.{ListState}

same_place : (a b : ℕ) → Some a ≡ Some b → a ≡ b
same_place a b e = cc

shown_at : (xs : List ℕ) (room offset : ℕ) (selected : Option ℕ) (asked place : ℕ) → 0 < length xs → cut_selection xs selected ≡ Some place → get_or xs place 0 ≤ room →
    let w = window_of xs room offset selected asked in (w.first ≤ place) × (place < w.end) × (w.end ≤ length xs) × (total xs w.first w.end ≤ room)
shown_at xs room offset None asked place some e fits = cc
shown_at xs room offset (Some s) asked place some e fits =
    let at : min s (length xs - 1) ≡ place = same_place _ _ e in
    let small : get_or xs (min s (length xs - 1)) 0 ≤ room = subst (λ (k : ℕ). get_or xs k 0 ≤ room) (sym at) fits in
    let u = settling.selected_is_shown xs room offset s asked (window_of xs room offset (Some s) asked) (window_is xs room offset (Some s) asked) some small in
    (omega (arith, u.0, at), omega (arith, u.1, at), u.2, u.3)

pub selected_is_shown : SelectedIsShown
selected_is_shown l room place s some e fits =
    let u = shown_at (heights_of l.items) room s.offset s.selected l.padding place (rw (length-map l.items item_height) some) e fits in
    (u.0, u.1, omega (arith, u.2, length-map l.items item_height), u.3)

items_in : ListData → Rect → Window → Option ℕ → List Layer
items_in l inner w selected = items_layers l inner selected w.first 0 (max (w.end - w.first) 1) (drop w.first l.items)

moved_stay : (l : ListData) (inner : Rect) (s : ListState) →
    items_in l inner (list_window l inner.height (list_moved l inner.height s)) (cut_selection (heights_of l.items) (cut_selection (heights_of l.items) s.selected))
    ≡ items_in l inner (list_window l inner.height s) (cut_selection (heights_of l.items) s.selected)
moved_stay l inner s =
    let heights = heights_of l.items in
    ap (λ w. items_in l inner w (cut_selection heights (cut_selection heights s.selected))) (settling.window_stays heights inner.height s.offset s.selected l.padding)
    ∙ ap (items_in l inner (list_window l inner.height s)) (settling.cut_again heights s.selected)

stay_by : (l : ListData) (inner : Rect) (s : ListState) (empty none : Bool) →
    let after = (if empty then s else (if none then default_state else list_moved l inner.height s)) in
    (if none then [] else items_in l inner (list_window l inner.height after) (cut_selection (heights_of l.items) after.selected))
    ≡ (if none then [] else items_in l inner (list_window l inner.height s) (cut_selection (heights_of l.items) s.selected))
stay_by l inner s true none = refl
stay_by l inner s false true = refl
stay_by l inner s false false = moved_stay l inner s

content_stays : (l : ListData) (inner : Rect) (s : ListState) → content_layers l inner (list_after l inner s) ≡ content_layers l inner s
unfolding content_layers list_after items_in
content_stays l inner s = stay_by l inner s (is_empty inner) (length l.items == 0)

pub redraw_keeps_strokes : RedrawKeepsStrokes
redraw_keeps_strokes l s clip = ap (λ ls. stroke (covers clip) (set_style l.style) ++ (block_layers_if l.block clip ++ ls)) (content_stays l (inner_of l.block clip) s)

dressed_inside : (o : Option BlockData) (style : Style) (ms : List Layer) (clip : Rect) (x y : ℕ) (cell : Look) → clip.x + clip.width ≤ 65535 → clip.y + clip.height ≤ 65535
    → covers (inner_of o clip) x y ≡ true
    → layers_at (stroke (covers clip) (set_style style) ++ (block_layers_if o clip ++ ms)) x y cell ≡ layers_at ms x y (under_items o style cell)
dressed_inside None style ms clip x y cell wide high e = ap (λ (r : Bool). layers_at ms x y (if r then restyled style cell else cell)) e
dressed_inside (Some b) style ms clip x y cell wide high e =
    ap (λ (r : Bool). layers_at (block_layers b clip ++ ms) x y (if r then restyled style cell else cell)) (in_clip b clip x y e)
    ∙ (layers_at-append (block_layers b clip) ms x y (restyled style cell) ∙ ap (layers_at ms x y) (inside b clip x y (restyled style cell) wide high e))

pub items_are_over_styles : ItemsAreOverStyles
items_are_over_styles l s clip x y cell wide high e = dressed_inside l.block l.style (content_layers l (inner_of l.block clip) s) clip x y cell wide high e
