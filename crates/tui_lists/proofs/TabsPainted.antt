-- Titles, one more at a time, and their columns.
use Rattle.std.proofs.Common.{◌≡◌, ℕ, ◌+◌, ◌-◌, ◌*◌, ◌^◌, ◌≤◌, ◌==◌, Bool, true, false, List, [], ◌∷◌, Result, IfOk, OnOk, if◌then◌else◌, refl, ◌∙◌, arith, inl, inr}
use Rattle.std.proofs.Math.Nat.{mul-le-mul}
use Rattle.std.proofs.lemmas.Bool.{cases_lt}
use Rattle.std.proofs.lemmas.Bool.Decides.{nat_tests}
use Rattle.tui_cells.specs.declared.position.Position.{Position}
use Rattle.tui_cells.specs.declared.rect.Rect.{Rect}
use Rattle.tui_cells.specs.Buffer.{Screen}
use Rattle.tui_cells.specs.Cell.{set_style}
use Rattle.tui_cells.specs.Rect.{covers, right_of}
use Rattle.tui_cells.specs.Layers.{Painted, stroke}
use Rattle.tui_cells.proofs.Painting.{Painted-none, Painted-still, Painted-then}
use Rattle.tui_lists.specs.Selection.{highlight_stays, is_at}
use Rattle.tui_lists.specs.Tabs.{TabsData}
use Rattle.tui_lists.specs.TabsStrokes.{divider_end, divider_layers, in_first_row, tab_end, tab_layers, title_end, title_start, titles_layers, used_columns}
use Rattle.tui_text.specs.Line.{LineData}
use Rattle.tui_text.specs.Setting.{line_spans, set_column, set_layers}
use Rattle.tui_text.specs.Span.{SpanData}
use Rattle.tui_text.proofs.Elements.{if_ok, on_ok}
use Rattle.tui_clusters.specs.Width.{saturated}

-- saturating a factor first makes no difference to a product that is saturated
pub saturated_product : (n d : ℕ) → saturated (n * saturated d) ≡ saturated (n * d)
saturated_product n d = elim (cases_lt d (2 ^ 64)) [
  | inl small ↦ let e : saturated d ≡ d = omega arith in rw e refl
  | inr large ↦
      let e : saturated d ≡ 2 ^ 64 - 1 = omega arith in
      elim (cases_lt 0 n) [
        | inl some ↦
            let low : 1 * (2 ^ 64 - 1) ≤ n * (2 ^ 64 - 1) = mul-le-mul {n₁ = 1} {m₁ = 2 ^ 64 - 1} {n₂ = n} {m₂ = 2 ^ 64 - 1} some (omega arith) in
            let high : 1 * (2 ^ 64 - 1) ≤ n * d = mul-le-mul {n₁ = 1} {m₁ = 2 ^ 64 - 1} {n₂ = n} {m₂ = d} some (omega arith) in
            rw e (omega (arith, low, high))
        | inr none ↦ let z : n ≡ 0 = omega arith in rw z (omega arith)
      ]
]

-- one more title
pub titles_more : (t : TabsData) (inner : Rect) (i x start next : ℕ) (at : Bool) (title : LineData) (titles whole : List LineData) (a b c d : Screen) →
    whole ≡ title ∷ titles → start ≡ divider_end t inner x i → at ≡ is_at t.selected i → next ≡ tab_end t inner start title →
    Painted (divider_layers t inner x i) a b → Painted (tab_layers t inner start at title) b c →
    Painted (titles_layers t inner (i + 1) next titles) c d → Painted (titles_layers t inner i x whole) a d
unfolding titles_layers
titles_more t inner i x start next at title titles whole a b c d ws ss ats ns p q r =
    rw (ws, ← ss, ← ats, ← ns) (Painted-then p (Painted-then q r))

pub titles_done : (t : TabsData) (inner : Rect) (i x : ℕ) (titles : List LineData) (a : Screen) → titles ≡ [] → Painted (titles_layers t inner i x titles) a a
unfolding titles_layers
titles_done t inner i x titles a e = rw e (Painted-none a)

-- the strokes of one title, and the column where it ends
pub tab_painted : {T E : Type 0} (result : Result T E) (t : TabsData) (inner : Rect) (x : ℕ) (is_selected : Bool) (title : LineData) (start end : ℕ) (used : Rect)
    (a b c d e : Screen) → start ≡ title_start t inner x → end ≡ set_column inner (in_first_row inner start) (line_spans title) inner.width →
    used ≡ used_columns inner start end →
    Painted (set_layers inner (in_first_row inner x) (line_spans t.padding_left) inner.width) a b →
    Painted (set_layers inner (in_first_row inner start) (line_spans title) inner.width) b c →
    Painted (if is_selected then stroke (covers used) (set_style t.highlight_style) else []) c d →
    OnOk result (Painted (set_layers inner (in_first_row inner end) (line_spans t.padding_right) inner.width) d e) →
    OnOk result (Painted (tab_layers t inner x is_selected title) a e)
unfolding tab_layers
tab_painted result t inner x is_selected title start end used a b c d e ss es us p q r last =
    on_ok result (λ s. rw (← ss, ← es, ← us) (Painted-then p (Painted-then q (Painted-then r s)))) last

pub tab_ends : {E : Type 0} (result : Result ℕ E) (t : TabsData) (inner : Rect) (x : ℕ) (title : LineData) (start end : ℕ) →
    start ≡ title_start t inner x → end ≡ set_column inner (in_first_row inner start) (line_spans title) inner.width →
    IfOk result (λ next. next ≡ set_column inner (in_first_row inner end) (line_spans t.padding_right) inner.width) →
    IfOk result (λ next. next ≡ tab_end t inner x title)
unfolding tab_end
tab_ends result t inner x title start end ss es last = if_ok result (λ next e. rw (← ss, ← es) e) last

-- past the last column nothing is set, and no column is used
past_out : (inner : Rect) (x y : ℕ) → right_of inner ≤ x → covers inner x y ≡ false
past_out inner x y le = grind (arith, nat_tests)

set_past : (inner : Rect) (at : Position) (spans : List SpanData) (room : ℕ) → right_of inner ≤ at.x → set_column inner at spans room ≡ at.x
set_past inner at spans room le = rw (past_out inner at.x at.y le) refl

set_still : (inner : Rect) (at : Position) (spans : List SpanData) (room : ℕ) (b : Screen) → right_of inner ≤ at.x → Painted (set_layers inner at spans room) b b
set_still inner at spans room b le = rw (past_out inner at.x at.y le) (Painted-none b)

used_out : (inner : Rect) (start end x y : ℕ) → end ≤ start → covers (used_columns inner start end) x y ≡ false
used_out inner start end x y le = grind (arith, nat_tests)

start_past : (t : TabsData) (inner : Rect) (x : ℕ) → right_of inner ≤ x → title_start t inner x ≡ x
start_past t inner x le = set_past inner (in_first_row inner x) (line_spans t.padding_left) inner.width le

end_past : (t : TabsData) (inner : Rect) (x : ℕ) (title : LineData) → right_of inner ≤ x → title_end t inner x title ≡ x
end_past t inner x title le =
    let start = start_past t inner x le in
    set_past inner (in_first_row inner (title_start t inner x)) (line_spans title) inner.width (omega (arith, start)) ∙ start

tab_past : (t : TabsData) (inner : Rect) (x : ℕ) (title : LineData) → right_of inner ≤ x → tab_end t inner x title ≡ x
unfolding tab_end
tab_past t inner x title le =
    let end = end_past t inner x title le in
    set_past inner (in_first_row inner (title_end t inner x title)) (line_spans t.padding_right) inner.width (omega (arith, end)) ∙ end

tab_still : (t : TabsData) (inner : Rect) (x : ℕ) (is_selected : Bool) (title : LineData) (b : Screen) → right_of inner ≤ x →
    Painted (tab_layers t inner x is_selected title) b b
unfolding tab_layers
tab_still t inner x is_selected title b le =
    let start = title_start t inner x in
    let end = title_end t inner x title in
    let starts = start_past t inner x le in
    let ends = end_past t inner x title le in
    Painted-then (set_still inner (in_first_row inner x) (line_spans t.padding_left) inner.width b le)
    (Painted-then (set_still inner (in_first_row inner start) (line_spans title) inner.width b (omega (arith, starts)))
    (Painted-then (Painted-still b (highlight_stays (used_columns inner start end) t.highlight_style is_selected)
    (λ a c. used_out inner start end a c (omega (arith, starts, ends))))
    (set_still inner (in_first_row inner end) (line_spans t.padding_right) inner.width b (omega (arith, ends)))))

divider_past_by : (t : TabsData) (inner : Rect) (x : ℕ) (is_first : Bool) → right_of inner ≤ x →
    (if is_first then x else set_column inner (in_first_row inner x) (t.divider ∷ []) inner.width) ≡ x
divider_past_by t inner x true le = refl
divider_past_by t inner x false le = set_past inner (in_first_row inner x) (t.divider ∷ []) inner.width le

divider_past : (t : TabsData) (inner : Rect) (x i : ℕ) → right_of inner ≤ x → divider_end t inner x i ≡ x
unfolding divider_end
divider_past t inner x i le = divider_past_by t inner x (i == 0) le

divider_still_by : (t : TabsData) (inner : Rect) (x : ℕ) (is_first : Bool) (b : Screen) → right_of inner ≤ x →
    Painted (if is_first then [] else set_layers inner (in_first_row inner x) (t.divider ∷ []) inner.width) b b
divider_still_by t inner x true b le = Painted-none b
divider_still_by t inner x false b le = set_still inner (in_first_row inner x) (t.divider ∷ []) inner.width b le

divider_still : (t : TabsData) (inner : Rect) (x i : ℕ) (b : Screen) → right_of inner ≤ x → Painted (divider_layers t inner x i) b b
unfolding divider_layers
divider_still t inner x i b le = divider_still_by t inner x (i == 0) b le

-- if no column is left, the remaining titles change nothing
pub titles_past : (t : TabsData) (inner : Rect) (i x : ℕ) (titles : List LineData) (b : Screen) → right_of inner ≤ x →
    Painted (titles_layers t inner i x titles) b b
unfolding titles_layers
titles_past t inner i x [] b le = Painted-none b
titles_past t inner i x (title ∷ titles) b le =
    let start = divider_end t inner x i in
    let starts = divider_past t inner x i le in
    let far : right_of inner ≤ start = omega (arith, starts) in
    let ends = tab_past t inner start title far in
    Painted-then (divider_still t inner x i b le)
    (Painted-then (tab_still t inner start (is_at t.selected i) title b far)
    (titles_past t inner (i + 1) (tab_end t inner start title) titles b (omega (arith, ends, far))))
