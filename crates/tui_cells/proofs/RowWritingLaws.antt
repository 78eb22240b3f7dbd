-- ASCII text written one character a cell.
use Rattle.std.proofs.Common.{◌≡◌, ◌≢◌, ◌⊎◌, inl, inr, take, drop, ℕ, zero, suc, ◌+◌, ◌-◌, ◌<◌, ◌≤◌, Bool, true, false, ◌&&◌, nat_le, nat_lt, List, [], ◌∷◌, Some, None, length, min, option_map, slice_index, slice_index_or, slice_set, if◌then◌else◌, refl, ◌∙◌, ap, sym, arith}
use Rattle.std.specs.List.{All}
use Rattle.std.proofs.lemmas.Bool.{cases_eq}
use Rattle.std.proofs.lemmas.Bool.Decides.{nat_tests}
use Rattle.std.proofs.lemmas.Grind.{get_or-set_at}
use Rattle.std.proofs.lemmas.List.{get_or_default, get_or-drop, get_or-set_other, get_or-take}
use Rattle.std.proofs.lemmas.List.Elements.{All-from_get_or, All-get_or}
use Rattle.tui_cells.specs.declared.rect.Rect.{Rect}
use Rattle.tui_cells.specs.declared.style.Style.{Style}
use Rattle.tui_cells.specs.Buffer.{IsScreen, Screen}
use Rattle.tui_cells.specs.Cell.{Edit, IsUnstyled, Look, blank, set_style, restyled, edited, write}
use Rattle.tui_cells.specs.Representation.{IsRow, row_cells}
use Rattle.tui_cells.specs.Layers.{Painted, StayIn, ascii_layers, at_place, edits, in_row, layers_at}
use Rattle.tui_cells.specs.Rect.{bottom_of, covers, right_of}
use Rattle.tui_cells.specs.RowWriting.{RowWritten}
use Rattle.tui_cells.specs.Style.{no_style}
use Rattle.tui_cells.proofs.NoStyleLaws.{no_style_same}
use Rattle.tui_cells.proofs.Making.{kept_row, made}
use Rattle.tui_cells.proofs.Painting.{Painted-inside, Painted-none}

-- a style that sets nothing can be set after the bytes
undressed_at : (here : Bool) (c d : Look) (s : Style) → s ≡ no_style → (if here then c else d) ≡ (if here then restyled s c else d)
undressed_at true c d s e = sym (no_style_same s c e)
undressed_at false c d s e = refl

pub written_no_style : {from to : ℕ} {text : List ℕ} {old new : List Look} (s : Style) → s ≡ no_style →
    RowWritten from to text [] old new → RowWritten from to text (set_style s ∷ []) old new
written_no_style {from = from} {to = to} {text = text} {old = old} s e k = record {
  len = k.len;
  cells = λ i. k.cells i ∙ undressed_at (nat_le from i && nat_lt i to) (edited (write (slice_index text (i - from) ∷ [])) (slice_index_or old i blank)) (slice_index_or old i blank) s e;
}

write_unstyled : (here : Bool) (text : List ℕ) (c : Look) → IsUnstyled c → IsUnstyled (if here then edited (write text) c else c)
write_unstyled true text c is = is
write_unstyled false text c is = is

-- writing bytes sets no style
written_unstyled_row : (from to : ℕ) (text : List ℕ) (old new : List Look) → RowWritten from to text [] old new → All IsUnstyled old → All IsUnstyled new
written_unstyled_row from to text old new k all = All-from_get_or IsUnstyled new blank (λ i lt.
    rw (k.cells i) (write_unstyled (nat_le from i && nat_lt i to) (slice_index text (i - from) ∷ []) (slice_index_or old i blank)
    (All-get_or IsUnstyled old i blank (rw (← k.len) lt) all)))

pub written_row : (width room : ℕ) (styled : Bool) (from to : ℕ) (text : List ℕ) (old new : List Look) →
    (length old ≡ width) × (styled ≡ false → All IsUnstyled old) → RowWritten from to text [] old new → IsRow width room styled new
written_row width room styled from to text old new is k =
    kept_row width room styled new (k.len ∙ is.0) (λ unstyled. written_unstyled_row from to text old new k (is.1 unstyled))

-- created cells are the cells of the row
pub written_cells : (width : ℕ) {from to : ℕ} {text : List ℕ} {after : List Edit} {old new : List Look} → length old ≡ width →
    RowWritten from to text after old new → RowWritten from to text after (row_cells width old) (row_cells width new)
written_cells width {old = old} {new = new} len k = rw (made width old len) (rw (made width new (k.len ∙ len)) k)

-- a cell of a row in which a text begins at a column
abbrev pub written_cell : ℕ → ℕ → Style → List ℕ → ℕ → ℕ → Look → Look
written_cell x y style text u v c = if in_row x (x + length text) y u v then edits (write (slice_index text (u - x) ∷ []) ∷ set_style style ∷ []) c else c

later_byte : (x u : ℕ) (b : ℕ) (bs : List ℕ) → x < u → slice_index bs (u - (x + 1)) ≡ slice_index (b ∷ bs) (u - x)
later_byte x u b bs lt = ap (slice_index (b ∷ bs)) (let e : suc (u - (x + 1)) ≡ u - x = omega arith in e)

first_byte : (x u : ℕ) (b : ℕ) (bs : List ℕ) → u ≡ x → b ≡ slice_index (b ∷ bs) (u - x)
first_byte x u b bs is = ap (slice_index (b ∷ bs)) (let e : zero ≡ u - x = omega arith in e)

-- one more byte before a text: the cell is the byte's own, a later one of the text, or neither
one_more : (b d e : ℕ) (style : Style) (c : Look) (here later all : Bool) → (here ≡ true → (later ≡ false) × (all ≡ true) × (b ≡ e)) → (here ≡ false → later ≡ all) →
    (here ≡ false → all ≡ true → d ≡ e) → (k : Look) → k ≡ (if here then edits (write (b ∷ []) ∷ set_style style ∷ []) c else c) →
    (if later then edits (write (d ∷ []) ∷ set_style style ∷ []) k else k) ≡ (if all then edits (write (e ∷ []) ∷ set_style style ∷ []) c else c)
one_more b d e style c true true all f g h k is = let no_later = (f refl).0 in cc
one_more b d e style c true false false f g h k is = let some = (f refl).1 in cc
one_more b d e style c true false true f g h k is = is ∙ ap (λ n. edits (write (n ∷ []) ∷ set_style style ∷ []) c) (f refl).2
one_more b d e style c false true true f g h k is = ap (λ t. edits (write (d ∷ []) ∷ set_style style ∷ []) t) is ∙ ap (λ n. edits (write (n ∷ []) ∷ set_style style ∷ []) c) (h refl refl)
one_more b d e style c false true false f g h k is = let same = g refl in cc
one_more b d e style c false false true f g h k is = let same = g refl in cc
one_more b d e style c false false false f g h k is = is

two_edits : (here : Bool) (b : ℕ) (style : Style) (c : Look) →
    (if here then edited (set_style style) (if here then edited (write (b ∷ [])) c else c) else (if here then edited (write (b ∷ [])) c else c))
    ≡ (if here then edits (write (b ∷ []) ∷ set_style style ∷ []) c else c)
two_edits true b style c = refl
two_edits false b style c = refl

written_none : (b : Bool) (style : Style) (n : ℕ) (c : Look) → b ≡ false → c ≡ (if b then edits (write (n ∷ []) ∷ set_style style ∷ []) c else c)
written_none true style n c e = cc
written_none false style n c e = refl

-- what the strokes of a text do at one position
pub ascii_at : (x y : ℕ) (style : Style) (text : List ℕ) (u v : ℕ) (c : Look) → layers_at (ascii_layers x y style text) u v c ≡ written_cell x y style text u v c
unfolding ascii_layers
ascii_at x y style [] u v c = written_none (in_row x (x + 0) y u v) style _ c (grind (arith, nat_tests))
ascii_at x y style (b ∷ bs) u v c =
    ascii_at (x + 1) y style bs u v _
    ∙ one_more b (slice_index bs (u - (x + 1))) (slice_index (b ∷ bs) (u - x)) style c (at_place x y u v) (in_row (x + 1) (x + 1 + length bs) y u v) (in_row x (x + length (b ∷ bs)) y u v)
    (λ h. (grind (arith, nat_tests), grind (arith, nat_tests), first_byte x u b bs (grind (arith, nat_tests))))
    (λ h. grind (arith, nat_tests))
    (λ h i. later_byte x u b bs (grind (arith, nat_tests)))
    _ (two_edits (at_place x y u v) b style c)

-- a text none of whose cells lies in the buffer
pub written_nowhere : (a : Screen) (x y : ℕ) (style : Style) (text : List ℕ) →
    ((u v : ℕ) → covers a.area u v ≡ true → in_row x (x + length text) y u v ≡ false) → Painted (ascii_layers x y style text) a a
written_nowhere a x y style text out = Painted-inside
    (λ u v here c. written_none (in_row x (x + length text) y u v) style _ c (out u v here) ∙ sym (ascii_at x y style text u v c)) (Painted-none a)

pub above_or_below : (a : Screen) (x y : ℕ) (style : Style) (text : List ℕ) → (y < a.area.y) ⊎ (bottom_of a.area ≤ y) → Painted (ascii_layers x y style text) a a
above_or_below a x y style text (inl above) = written_nowhere a x y style text (λ u v here. grind (arith, nat_tests))
above_or_below a x y style text (inr beneath) = written_nowhere a x y style text (λ u v here. grind (arith, nat_tests))

pub beside : (a : Screen) (x y from to : ℕ) (style : Style) (text : List ℕ) → from ≡ a.area.x - x → to ≡ min (length text) (right_of a.area - x) → to ≤ from →
    Painted (ascii_layers x y style text) a a
beside a x y from to style text f t le = written_nowhere a x y style text (λ u v here. grind (arith, nat_tests))

same_pick : (p q : Bool) (m n : ℕ) (style : Style) (c d : Look) → p ≡ q → (q ≡ true → m ≡ n) → c ≡ d →
    (if p then edits (write (m ∷ []) ∷ set_style style ∷ []) c else c) ≡ (if q then edits (write (n ∷ []) ∷ set_style style ∷ []) d else d)
same_pick true true m n style c d e f g = ap (λ k. edits (write (k ∷ []) ∷ set_style style ∷ []) c) (f refl) ∙ ap (λ t. edits (write (n ∷ []) ∷ set_style style ∷ []) t) g
same_pick true false m n style c d e f g = cc
same_pick false true m n style c d e f g = cc
same_pick false false m n style c d e f g = g

-- a row of a buffer that gets the part of a text that fits in the area
module _ (area : Rect) (rows : List (List Look)) (x y from to place k : ℕ) (style : Style) (text part : List ℕ) (old row : List Look)
    (screen : IsScreen (record { area = area; rows = rows })) (top : area.y ≤ y) (low : y < bottom_of area)
    (first : from ≡ area.x - x) (last : to ≡ min (length text) (right_of area - x)) (some : from < to)
    (start : place ≡ x + from - area.x) (at : k ≡ y - area.y) (cut : part ≡ take (to - from) (drop from text))
    (was : old ≡ slice_index_or rows k old) (spelt : RowWritten place (place + (to - from)) part (set_style style ∷ []) old row) where
  byte_is : (u : ℕ) → area.x ≤ u → place ≤ u - area.x → u - area.x < place + (to - from) → slice_index part (u - area.x - place) ≡ slice_index text (u - x)
  byte_is u left from_place to_place =
      ap (λ t. slice_index t (u - area.x - place)) cut
      ∙ (get_or-take (to - from) (drop from text) (u - area.x - place) 0 (omega arith)
      ∙ (get_or-drop from text (u - area.x - place) 0
      ∙ ap (slice_index text) (let e : from + (u - area.x - place) ≡ u - x = omega arith in e)))

  row_is : (u v : ℕ) → covers area u v ≡ true → v ≡ y →
      slice_index_or (slice_index_or (slice_set rows k row) (v - area.y) []) (u - area.x) blank
      ≡ written_cell x y style text u v (slice_index_or (slice_index_or rows (v - area.y) []) (u - area.x) blank)
  row_is u v here is =
      let left : area.x ≤ u = grind (arith, nat_tests) in
      let right : u < right_of area = grind (arith, nat_tests) in
      let high = screen.high in
      ap (λ r. slice_index_or r (u - area.x) blank) (get_or-set_at rows k (v - area.y) row [] (omega arith) (omega arith))
      ∙ (spelt.cells (u - area.x)
      ∙ same_pick (nat_le place (u - area.x) && nat_lt (u - area.x) (place + (to - from))) (in_row x (x + length text) y u v) _ _ style _ _
      (grind (arith, nat_tests))
      (λ h. byte_is u left (grind (arith, nat_tests)) (grind (arith, nat_tests)))
      (ap (λ t. slice_index_or t (u - area.x) blank) (was ∙ get_or_default rows k old [] (omega arith) ∙ ap (λ i. slice_index_or rows i []) (let e : k ≡ v - area.y = omega arith in e))))

  other_row : (u v : ℕ) → covers area u v ≡ true → v ≢ y →
      slice_index_or (slice_index_or (slice_set rows k row) (v - area.y) []) (u - area.x) blank
      ≡ written_cell x y style text u v (slice_index_or (slice_index_or rows (v - area.y) []) (u - area.x) blank)
  other_row u v here other =
      let above : area.y ≤ v = grind (arith, nat_tests) in
      ap (λ r. slice_index_or r (u - area.x) blank) (get_or-set_other rows k (v - area.y) row [] (λ e. other (omega arith)))
      ∙ written_none (in_row x (x + length text) y u v) style _ _ (grind (arith, nat_tests))

  written_at : (u v : ℕ) (here : Bool) → covers area u v ≡ here →
      (if here then Some (slice_index_or (slice_index_or (slice_set rows k row) (v - area.y) []) (u - area.x) blank) else None)
      ≡ option_map (layers_at (ascii_layers x y style text) u v) (if here then Some (slice_index_or (slice_index_or rows (v - area.y) []) (u - area.x) blank) else None)
  written_at u v true here = ap Some (elim (cases_eq v y) [ inl is ↦ row_is u v here is | inr other ↦ other_row u v here other ]
      ∙ sym (ascii_at x y style text u v _))
  written_at u v false here = refl

  pub written_screen : Painted (ascii_layers x y style text) (record { area = area; rows = rows }) (record { area = area; rows = slice_set rows k row })
  written_screen = record { area = refl; cells = λ u v. written_at u v (covers area u v) refl }

-- a text changes only cells of its row, from its column on
pub ascii_stays : (x y : ℕ) (style : Style) (text : List ℕ) → StayIn (in_row x (x + length text) y) (ascii_layers x y style text)
ascii_stays x y style text = record {
  cell = λ u v out c. ascii_at x y style text u v c ∙ sym (written_none (in_row x (x + length text) y u v) style _ c out);
}
