-- Graphemes set side by side, one more at a time.
use Rattle.std.proofs.Common.{◌≡◌, ℕ, ◌+◌, ◌-◌, ◌≤◌, ◌<◌, Bool, true, false, nat_le, List, [], ◌∷◌, if◌then◌else◌, refl, ◌∙◌, ap, sym, subst, arith}
use Rattle.std.proofs.lemmas.Bool.Decides.{nat_tests}
use Rattle.std.proofs.lemmas.List.{append-nil}
use Rattle.tui_cells.specs.declared.position.Position.{Position}
use Rattle.tui_cells.specs.declared.rect.Rect.{Rect}
use Rattle.tui_cells.specs.declared.style.Style.{Style}
use Rattle.tui_cells.specs.Buffer.{Screen}
use Rattle.tui_cells.specs.Layers.{KeptOutside, Layer, Painted}
use Rattle.tui_cells.specs.Rect.{covers, right_of}
use Rattle.tui_cells.proofs.Painting.{KeptOutside-weaker, Painted-none, Painted-then}
use Rattle.tui_clusters.specs.Width.{width_of}
use Rattle.tui_text.specs.Painting.{cells_at}
use Rattle.tui_clusters.specs.Shown.{clusters}
use Rattle.tui_text.specs.Setting.{room_in, set_cluster, set_clusters, set_column, set_end, set_layers, set_part, spans_end, spans_layers}
use Rattle.tui_text.specs.Span.{SpanData}
use Rattle.tui_text.proofs.SetStays.{set_end_within, spans_end_within}

pub fits : (m n : ℕ) → m ≤ n → nat_le m n ≡ true
fits m n le = grind (arith, nat_tests)

too_wide : (m n : ℕ) → n < m → nat_le m n ≡ false
too_wide m n lt = grind (arith, nat_tests)

pub pick_true : {A : Type 0} (b : Bool) (x y : A) → b ≡ true → (if b then x else y) ≡ x
pick_true true x y e = refl
pick_true false x y e = cc

pick_false : {A : Type 0} (b : Bool) (x y : A) → b ≡ false → (if b then x else y) ≡ y
pick_false true x y e = cc
pick_false false x y e = refl

pub set_more : (x y room next left : ℕ) (style : Style) (cs : List (List ℕ)) (c : List ℕ) (rest : List (List ℕ)) (a b final : Screen) →
    cs ≡ c ∷ rest → width_of c ≤ room → next ≡ x + width_of c → left ≡ room - width_of c →
    Painted (set_cluster x y style c) a b → Painted (set_clusters next y left style rest) b final → Painted (set_clusters x y room style cs) a final
unfolding set_clusters
set_more x y room next left style cs c rest a b final e le n l p q =
    let then_ : Painted (set_clusters (x + width_of c) y (room - width_of c) style rest) b final =
    subst (λ (ls : List Layer). Painted ls b final) (ap (λ (k : ℕ). set_clusters k y left style rest) n ∙ ap (λ (k : ℕ). set_clusters (x + width_of c) y k style rest) l) q in
    subst (λ (ts : List (List ℕ)). Painted (set_clusters x y room style ts) a final) (sym e)
    (subst (λ (ls : List Layer). Painted ls a final) (sym (pick_true (nat_le (width_of c) room) _ _ (fits (width_of c) room le))) (Painted-then p then_))

pub end_more : (x room next left : ℕ) (cs : List (List ℕ)) (c : List ℕ) (rest : List (List ℕ)) → cs ≡ c ∷ rest → width_of c ≤ room → next ≡ x + width_of c → left ≡ room - width_of c →
    set_end next left rest ≡ set_end x room cs
unfolding set_end
end_more x room next left cs c rest e le n l =
    ap (λ (k : ℕ). set_end k left rest) n ∙ (ap (λ (k : ℕ). set_end (x + width_of c) k rest) l
    ∙ (sym (pick_true (nat_le (width_of c) room) _ _ (fits (width_of c) room le)) ∙ ap (set_end x room) (sym e)))

pub set_stop : (x y room : ℕ) (style : Style) (cs : List (List ℕ)) (c : List ℕ) (rest : List (List ℕ)) (b : Screen) → cs ≡ c ∷ rest → room < width_of c → Painted (set_clusters x y room style cs) b b
unfolding set_clusters
set_stop x y room style cs c rest b e lt =
    subst (λ (ts : List (List ℕ)). Painted (set_clusters x y room style ts) b b) (sym e)
    (subst (λ (ls : List Layer). Painted ls b b) (sym (pick_false (nat_le (width_of c) room) _ _ (too_wide (width_of c) room lt))) (Painted-none b))

pub end_stop : (x room : ℕ) (cs : List (List ℕ)) (c : List ℕ) (rest : List (List ℕ)) → cs ≡ c ∷ rest → room < width_of c → set_end x room cs ≡ x
unfolding set_end
end_stop x room cs c rest e lt = ap (set_end x room) e ∙ pick_false (nat_le (width_of c) room) _ _ (too_wide (width_of c) room lt)

pub set_none : (x y room : ℕ) (style : Style) (cs : List (List ℕ)) (b : Screen) → cs ≡ [] → Painted (set_clusters x y room style cs) b b
unfolding set_clusters
set_none x y room style cs b e = subst (λ (ts : List (List ℕ)). Painted (set_clusters x y room style ts) b b) (sym e) (Painted-none b)

pub end_none : (x room : ℕ) (cs : List (List ℕ)) → cs ≡ [] → set_end x room cs ≡ x
unfolding set_end
end_none x room cs e = ap (set_end x room) e

to_in : (a e x w y u v : ℕ) → a ≤ x → x + w ≤ e → covers (cells_at a y (e - a)) u v ≡ false → covers (cells_at x y w) u v ≡ false
to_in a e x w y u v first last out = grind (arith, nat_tests)

-- a range of columns within a larger one
kept_to : (a e x w y : ℕ) (old new : Screen) → a ≤ x → x + w ≤ e → KeptOutside (covers (cells_at x y w)) old new →
    KeptOutside (covers (cells_at a y (e - a))) old new
kept_to a e x w y old new first last k = KeptOutside-weaker (λ u v out. to_in a e x w y u v first last out) k

-- a first run, if the column after the last one used is the same for what is left
pub kept_run : (a x room n end y : ℕ) (cs : List (List ℕ)) (old new : Screen) → a ≤ x → set_end (x + n) (room - n) cs ≡ end →
    KeptOutside (covers (cells_at x y n)) old new → KeptOutside (covers (cells_at a y (end - a))) old new
kept_run a x room n end y cs old new first e k =
    kept_to a end x n y old new first (omega (arith, e, (set_end_within (x + n) (room - n) cs).0)) k

-- what is set after it
pub kept_rest : (a x room end y : ℕ) (cs : List (List ℕ)) (old new : Screen) → a ≤ x →
    KeptOutside (covers (cells_at x y (set_end x room cs - x))) old new → set_end x room cs ≡ end → KeptOutside (covers (cells_at a y (end - a))) old new
kept_rest a x room end y cs old new first k e =
    kept_to a end x (set_end x room cs - x) y old new first (omega (arith, e, (set_end_within x room cs).0)) k

-- a grapheme that fits
pub kept_first : (a x room w end y : ℕ) (cs : List (List ℕ)) (c : List ℕ) (rest : List (List ℕ)) (old new : Screen) → a ≤ x → cs ≡ c ∷ rest → w ≡ width_of c →
    w ≤ room → set_end x room cs ≡ end → KeptOutside (covers (cells_at x y w)) old new → KeptOutside (covers (cells_at a y (end - a))) old new
kept_first a x room w end y cs c rest old new first e wide le is k =
    kept_run a x room w end y rest old new first
    (end_more x room (x + w) (room - w) cs c rest e (omega (arith, wide, le)) (omega (arith, wide)) (omega (arith, wide)) ∙ is) k

-- a span before others
pub kept_span : (a x room end y : ℕ) (s : SpanData) (ss spans : List SpanData) (old new : Screen) → a ≤ x → spans ≡ s ∷ ss → spans_end x room spans ≡ end →
    KeptOutside (covers (cells_at x y (set_end x room (clusters s.content) - x))) old new → KeptOutside (covers (cells_at a y (end - a))) old new
unfolding spans_end
kept_span a x room end y s ss spans old new first e is k =
    let next = set_end x room (clusters s.content) in
    let after : next ≤ spans_end x room spans = rw e (spans_end_within next (room - (next - x)) ss).0 in
    kept_to a end x (next - x) y old new first (omega (arith, is, after, (set_end_within x room (clusters s.content)).0)) k

-- a single span
pub one_span : (x y room : ℕ) (s : SpanData) (a b : Screen) → Painted (set_clusters x y room s.style (clusters s.content)) a b → Painted (spans_layers x y room (s ∷ [])) a b
unfolding spans_layers
one_span x y room s a b p = rw (append-nil (set_clusters x y room s.style (clusters s.content))) p

pub one_end : (x room : ℕ) (s : SpanData) → spans_end x room (s ∷ []) ≡ set_end x room (clusters s.content)
unfolding spans_end
one_end x room s = refl

pub one_kept : (x y room : ℕ) (s : SpanData) (a b : Screen) → KeptOutside (covers (cells_at x y (set_end x room (clusters s.content) - x))) a b →
    KeptOutside (covers (cells_at x y (spans_end x room (s ∷ []) - x))) a b
unfolding spans_end
one_kept x y room s a b k = k

pub spans_more : (x y room next left : ℕ) (s : SpanData) (ss spans : List SpanData) (a b final : Screen) →
    spans ≡ s ∷ ss → next ≡ set_end x room (clusters s.content) → left ≡ room - (next - x) →
    Painted (set_clusters x y room s.style (clusters s.content)) a b → Painted (spans_layers next y left ss) b final → Painted (spans_layers x y room spans) a final
unfolding spans_layers
spans_more x y room next left s ss spans a b final e n l p q = rw e (Painted-then p (rw (l, n) at q))

pub spans_end_more : (x room next left : ℕ) (s : SpanData) (ss spans : List SpanData) →
    spans ≡ s ∷ ss → next ≡ set_end x room (clusters s.content) → left ≡ room - (next - x) → spans_end next left ss ≡ spans_end x room spans
unfolding spans_end
spans_end_more x room next left s ss spans e n l = rw (e, l, n) refl

pub spans_done : (x y room : ℕ) (spans : List SpanData) (b : Screen) → spans ≡ [] → Painted (spans_layers x y room spans) b b
unfolding spans_layers
spans_done x y room spans b e = rw e (Painted-none b)

pub spans_end_done : (x room : ℕ) (spans : List SpanData) → spans ≡ [] → spans_end x room spans ≡ x
unfolding spans_end
spans_end_done x room spans e = rw e refl

-- what is set from a position of the clip on, in the room that it has there
pub set_in : (clip : Rect) (at : Position) (spans : List SpanData) (room r : ℕ) (a b : Screen) → covers clip at.x at.y ≡ true → r ≡ room_in clip at.x room →
    Painted (spans_layers at.x at.y r spans) a b → Painted (set_layers clip at spans room) a b
set_in clip at spans room r a b inside e p = rw inside (rw e at p)

pub column_in : (clip : Rect) (at : Position) (spans : List SpanData) (room r x : ℕ) → covers clip at.x at.y ≡ true → r ≡ room_in clip at.x room →
    x ≡ spans_end at.x r spans → x ≡ set_column clip at spans room
column_in clip at spans room r x inside e p = rw inside (rw e at p)

-- what is set from a position of the clip on changes nothing outside the columns that it uses
pub kept_part : (clip : Rect) (at : Position) (spans : List SpanData) (room r : ℕ) (a b : Screen) → covers clip at.x at.y ≡ true → r ≡ room_in clip at.x room →
    KeptOutside (covers (cells_at at.x at.y (spans_end at.x r spans - at.x))) a b → KeptOutside (set_part clip at spans room) a b
kept_part clip at spans room r a b inside e k = rw inside (rw e at k)

part_out : (clip : Rect) (x y end u v : ℕ) → covers clip x y ≡ true → end ≤ x + (right_of clip - x) → covers clip u v ≡ false → covers (cells_at x y (end - x)) u v ≡ false
part_out clip x y end u v inside within out = grind (arith, nat_tests)

-- and so nothing outside the clip
pub kept_in_clip : (clip : Rect) (at : Position) (spans : List SpanData) (room r : ℕ) (a b : Screen) → covers clip at.x at.y ≡ true → r ≡ room_in clip at.x room →
    KeptOutside (covers (cells_at at.x at.y (spans_end at.x r spans - at.x))) a b → KeptOutside (covers clip) a b
kept_in_clip clip at spans room r a b inside e k =
    let within = (spans_end_within at.x r spans).1 in
    KeptOutside-weaker (λ u v out. part_out clip at.x at.y (spans_end at.x r spans) u v inside (omega (arith, within, e)) out) k
