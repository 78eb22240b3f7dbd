-- Texts set from a position of a clip on stay in the clip.
use Rattle.std.proofs.Common.{◌≡◌, ℕ, ◌+◌, ◌-◌, ◌<◌, ◌≤◌, Bool, true, false, nat_le, nat_lt, List, [], ◌∷◌, ◌++◌, if◌then◌else◌, refl, arith}
use Rattle.std.proofs.lemmas.Bool.Decides.{nat_tests}
use Rattle.tui_cells.specs.declared.position.Position.{Position}
use Rattle.tui_cells.specs.declared.rect.Rect.{Rect}
use Rattle.tui_cells.specs.declared.style.Style.{Style}
use Rattle.tui_cells.specs.Layers.{StayIn}
use Rattle.tui_cells.specs.Rect.{bottom_of, covers, right_of}
use Rattle.tui_cells.specs.Stays.{StayIn-append, StayIn-none}
use Rattle.tui_cells.proofs.Regions.{StayIn-wider}
use Rattle.tui_clusters.specs.Width.{width_of}
use Rattle.tui_clusters.specs.Shown.{clusters}
use Rattle.tui_text.specs.Graphemes.{glyph_in}
use Rattle.tui_text.specs.Painting.{cells_at, glyph_at}
use Rattle.tui_text.specs.Setting.{room_in, set_cluster, set_clusters, set_end, set_layers, spans_end, spans_layers}
use Rattle.tui_text.specs.Span.{SpanData}
use Rattle.tui_text.proofs.RowStays.{glyph_stays}

-- a column of a row, with a room of columns that ends in the row
pub record Inside (row : Rect) (x room : ℕ) : Type 0 where
  pub left : row.x ≤ x
  pub right : x + room ≤ right_of row
  pub high : row.y < bottom_of row

end_from : (x room w : ℕ) (fits : Bool) (end : ℕ) → nat_le w room ≡ fits → x + w ≤ end → end ≤ x + w + (room - w)
    → (x ≤ (if fits then end else x)) × ((if fits then end else x) ≤ x + room)
end_from x room w true end e from to = let le : w ≤ room = grind (arith, nat_tests) in (omega arith, omega arith)
end_from x room w false end e from to = (omega arith, omega arith)

-- the column after the last one used lies in the room, or just after it
pub set_end_within : (x room : ℕ) (cs : List (List ℕ)) → (x ≤ set_end x room cs) × (set_end x room cs ≤ x + room)
unfolding set_end
set_end_within x room [] = (omega arith, omega arith)
set_end_within x room (c ∷ cs) =
    let next = set_end_within (x + width_of c) (room - width_of c) cs in
    end_from x room (width_of c) (nat_le (width_of c) room) (set_end (x + width_of c) (room - width_of c) cs) refl next.0 next.1

-- the same for spans
pub spans_end_within : (x room : ℕ) (spans : List SpanData) → (x ≤ spans_end x room spans) × (spans_end x room spans ≤ x + room)
unfolding spans_end
spans_end_within x room [] = (omega arith, omega arith)
spans_end_within x room (s ∷ ss) =
    let next = set_end x room (clusters s.content) in
    let here = set_end_within x room (clusters s.content) in
    let after = spans_end_within next (room - (next - x)) ss in
    (omega (arith, here.0, after.0), omega (arith, here.0, here.1, after.1))

first_inside : (row : Rect) (x room w : ℕ) → Inside row x room → w ≤ room → nat_lt 0 w ≡ true → covers row x row.y ≡ true
first_inside row x room w i le e = let p = i.left in let q = i.right in let h = i.high in grind (arith, nat_tests)

last_inside : (row : Rect) (x room w : ℕ) → Inside row x room → w ≤ room → nat_lt 0 w ≡ true → covers row (x + (w - 1)) row.y ≡ true
last_inside row x room w i le e = let p = i.left in let q = i.right in let h = i.high in grind (arith, nat_tests)

one_stays : (row : Rect) (x room : ℕ) (style : Style) (c : List ℕ) (wide : Bool) → nat_lt 0 (width_of c) ≡ wide → Inside row x room → width_of c ≤ room
    → StayIn (covers row) (if wide then glyph_at x row.y (glyph_in style c) else [])
one_stays row x room style c true e i le =
    glyph_stays row x (glyph_in style c) (first_inside row x room (width_of c) i le e) (last_inside row x room (width_of c) i le e)
one_stays row x room style c false e i le = StayIn-none

next_inside : (row : Rect) (x room w : ℕ) → Inside row x room → w ≤ room → Inside row (x + w) (room - w)
next_inside row x room w i le = record { left = omega (arith, i.left); right = omega (arith, i.right); high = i.high }

fits_stay : (row : Rect) (x room : ℕ) (style : Style) (c : List ℕ) (cs : List (List ℕ)) (fits : Bool) → nat_le (width_of c) room ≡ fits → Inside row x room
    → (Inside row (x + width_of c) (room - width_of c) → StayIn (covers row) (set_clusters (x + width_of c) row.y (room - width_of c) style cs))
    → StayIn (covers row) (if fits then set_cluster x row.y style c ++ set_clusters (x + width_of c) row.y (room - width_of c) style cs else [])
fits_stay row x room style c cs true e i rest =
    let le : width_of c ≤ room = grind (arith, nat_tests) in
    StayIn-append (one_stays row x room style c (nat_lt 0 (width_of c)) refl i le) (rest (next_inside row x room (width_of c) i le))
fits_stay row x room style c cs false e i rest = StayIn-none

-- clusters that are set in a room of columns of a row stay there
pub clusters_stay : (row : Rect) (x room : ℕ) (style : Style) (cs : List (List ℕ)) → Inside row x room → StayIn (covers row) (set_clusters x row.y room style cs)
unfolding set_clusters
clusters_stay row x room style [] i = StayIn-none
clusters_stay row x room style (c ∷ cs) i =
    fits_stay row x room style c cs (nat_le (width_of c) room) refl i (λ j. clusters_stay row (x + width_of c) (room - width_of c) style cs j)

after_inside : (row : Rect) (x room next : ℕ) → Inside row x room → x ≤ next → next ≤ x + room → Inside row next (room - (next - x))
after_inside row x room next i from to = record { left = omega (arith, i.left); right = omega (arith, i.right); high = i.high }

spans_stay : (row : Rect) (x room : ℕ) (spans : List SpanData) → Inside row x room → StayIn (covers row) (spans_layers x row.y room spans)
unfolding spans_layers
spans_stay row x room [] i = StayIn-none
spans_stay row x room (s ∷ ss) i =
    let next = set_end x room (clusters s.content) in
    let end = set_end_within x room (clusters s.content) in
    StayIn-append (clusters_stay row x room s.style (clusters s.content) i) (spans_stay row next (room - (next - x)) ss (after_inside row x room next i end.0 end.1))

row_out : (clip : Rect) (x y u v : ℕ) → covers clip x y ≡ true → covers clip u v ≡ false → covers (cells_at clip.x y clip.width) u v ≡ false
row_out clip x y u v inside out = grind (arith, nat_tests)

row_inside : (clip : Rect) (x y room : ℕ) → covers clip x y ≡ true → Inside (cells_at clip.x y clip.width) x (room_in clip x room)
row_inside clip x y room e = record { left = grind (arith, nat_tests); right = grind (arith, nat_tests); high = grind (arith, nat_tests) }

inside_stay : (clip : Rect) (at : Position) (spans : List SpanData) (room : ℕ) (inside : Bool) → covers clip at.x at.y ≡ inside
    → StayIn (covers clip) (if inside then spans_layers at.x at.y (room_in clip at.x room) spans else [])
inside_stay clip at spans room true e =
    StayIn-wider (λ u v out. row_out clip at.x at.y u v e out)
    (spans_stay (cells_at clip.x at.y clip.width) at.x (room_in clip at.x room) spans (row_inside clip at.x at.y room e))
inside_stay clip at spans room false e = StayIn-none

-- the strokes of what is set stay in the clip
pub set_stays : (clip : Rect) (at : Position) (spans : List SpanData) (room : ℕ) → StayIn (covers clip) (set_layers clip at spans room)
set_stays clip at spans room = inside_stay clip at spans room (covers clip at.x at.y) refl
