-- What a drawing of an input paints, and how it changes the state.
use Rattle.std.proofs.Common.{◌≡◌, ℕ, ◌+◌, ◌-◌, ◌<◌, ◌≤◌, ◌==◌, Bool, true, false, nat_le, List, [], ◌∷◌, ◌++◌, All, map, length, drop, refl, sym, ap, ap₂, subst, ◌∙◌, arith, append_assoc, ⊎_elim}
use Rattle.std.proofs.lemmas.Bool.{cases_lt}
use Rattle.std.proofs.lemmas.Bool.Decides.{nat_tests}
use Rattle.std.proofs.lemmas.List.{drop-map}
use Rattle.std.proofs.lemmas.List.Elements.{All-map}
use Rattle.std.proofs.lemmas.List.Sums.{sum_by-cons}
use Rattle.std.specs.Prelude.{IsSome, None, OnOk, Option, Result, Some, unwrap_or, if◌then◌else◌}
use Rattle.tui_cells.specs.declared.position.Position.{Position}
use Rattle.tui_cells.specs.declared.rect.Rect.{Rect}
use Rattle.tui_cells.specs.declared.style.Style.{Style}
use Rattle.tui_cells.specs.Buffer.{Screen}
use Rattle.tui_cells.specs.Cell.{IsAllocationFree}
use Rattle.tui_cells.specs.Layers.{KeptOutside, Layer, Painted}
use Rattle.tui_cells.specs.Rect.{covers}
use Rattle.tui_cells.proofs.Painting.{KeptOutside-weaker, Painted-none, Painted-then}
use Rattle.tui_cells.specs.Style.{no_style}
use Rattle.tui_clusters.specs.Width.{saturated, width_of}
use Rattle.tui_frames.specs.InBlock.{inner_of}
use Rattle.tui_input.specs.Input.{InputData, InputMoves, content_layers, cursor_in, has_cell, input_after, place_in, room_of, shown_pieces, text_layers}
use Rattle.tui_input.specs.InputDrawing.{IsAllocationFreeMask, IsAllocationFreeText}
use Rattle.tui_input.specs.InputSettles.{input_rests}
use Rattle.tui_input.specs.Scroll.{IsScrolled, columns, columns_from, cursor_column, scrolled, shown, with_first}
use Rattle.tui_input.specs.State.{TypedText, text_of}
use Rattle.tui_input.proofs.Starts.{is_scrolled}
use Rattle.tui_text.specs.Painting.{cells_at}
use Rattle.tui_text.specs.Setting.{corner, set_cluster, set_clusters, set_end, set_layers}
use Rattle.tui_text.proofs.Settings.{fits, pick_true}
use Rattle.unicode_segmentation.specs.Grapheme.{graphemes}

-- ---- clusters side by side

-- clusters that all fit end after all their columns
pub end_of_all : (x room : ℕ) (cs : List (List ℕ)) → columns cs ≤ room → set_end x room cs ≡ x + columns cs
unfolding set_end
end_of_all x room [] le = omega arith
end_of_all x room (c ∷ cs) le =
    let sum = sum_by-cons width_of c cs in
    let rest = end_of_all (x + width_of c) (room - width_of c) cs (omega arith) in
    let end : x + width_of c + columns cs ≡ x + columns (c ∷ cs) = omega arith in
    pick_true (nat_le (width_of c) room) (set_end (x + width_of c) (room - width_of c) cs) x (fits (width_of c) room (omega arith)) ∙ rest ∙ end

-- and other clusters follow them
both_sides : (x y room : ℕ) (style : Style) (cs ds : List (List ℕ)) → columns cs ≤ room
    → set_clusters x y room style (cs ++ ds) ≡ set_clusters x y room style cs ++ set_clusters (x + columns cs) y (room - columns cs) style ds
unfolding set_clusters
both_sides x y room style [] ds le =
    let here : x ≡ x + columns [] = omega arith in
    let all : room ≡ room - columns [] = omega arith in
    ap₂ (λ a b. set_clusters a y b style ds) here all
both_sides x y room style (c ∷ cs) ds le =
    let sum = sum_by-cons width_of c cs in
    let one = fits (width_of c) room (omega arith) in
    let next = set_clusters (x + width_of c) y (room - width_of c) style in
    let here : x + width_of c + columns cs ≡ x + columns (c ∷ cs) = omega arith in
    let left : room - width_of c - columns cs ≡ room - columns (c ∷ cs) = omega arith in
    pick_true (nat_le (width_of c) room) (set_cluster x y style c ++ next (cs ++ ds)) [] one
    ∙ ap (λ t. set_cluster x y style c ++ t) (both_sides (x + width_of c) y (room - width_of c) style cs ds (omega arith))
    ∙ sym (append_assoc (set_cluster x y style c) (next cs) _)
    ∙ ap₂ (λ a b. (set_cluster x y style c ++ next cs) ++ set_clusters a y b style ds) here left
    ∙ ap (λ t. t ++ set_clusters (x + columns (c ∷ cs)) y (room - columns (c ∷ cs)) style ds)
    (sym (pick_true (nat_le (width_of c) room) (set_cluster x y style c ++ next cs) [] one))

pub then_painted : (x y room next left : ℕ) (style : Style) (cs ds : List (List ℕ)) (a b c : Screen) → columns cs ≤ room → next ≡ set_end x room cs
    → left ≡ room - (next - x) → Painted (set_clusters x y room style cs) a b → Painted (set_clusters next y left style ds) b c
    → Painted (set_clusters x y room style (cs ++ ds)) a c
then_painted x y room next left style cs ds a b c le n l p q =
    let end = n ∙ end_of_all x room cs le in
    let rest : left ≡ room - columns cs = omega arith in
    let following = subst (λ ls. Painted ls b c) (ap₂ (λ u v. set_clusters u y v style ds) end rest) q in
    subst (λ ls. Painted ls a c) (sym (both_sides x y room style cs ds le)) (Painted-then p following)

-- the cluster that is written next, as it is shown
pub next_piece : (mask : Option (List ℕ)) (old new : List (List ℕ)) (c symbol : List ℕ) → old ≡ c ∷ new → symbol ≡ unwrap_or mask c
    → map (unwrap_or mask) old ≡ symbol ∷ map (unwrap_or mask) new
next_piece mask old new c symbol e is = ap (map (unwrap_or mask)) e ∙ ap (λ t. t ∷ map (unwrap_or mask) new) (sym is)

in_room : (a room x w y u v : ℕ) → a ≤ x → x + w ≤ a + room → covers (cells_at a y room) u v ≡ false → covers (cells_at x y w) u v ≡ false
in_room a room x w y u v first last out = grind (arith, nat_tests)

-- what changes only some columns of a room changes nothing outside the room
pub kept_in_room : (a room x w y : ℕ) (old new : Screen) → a ≤ x → x + w ≤ a + room → KeptOutside (covers (cells_at x y w)) old new
    → KeptOutside (covers (cells_at a y room)) old new
kept_in_room a room x w y old new first last k = KeptOutside-weaker (λ u v out. in_room a room x w y u v first last out) k

row_in : (inner : Rect) (u v : ℕ) → has_cell inner ≡ true → covers inner u v ≡ false → covers (cells_at inner.x inner.y (room_of inner)) u v ≡ false
row_in inner u v e out = grind (arith, nat_tests)

pub kept_in_row : (inner : Rect) (room : ℕ) (old new : Screen) → has_cell inner ≡ true → room ≡ room_of inner
    → KeptOutside (covers (cells_at inner.x inner.y room)) old new → KeptOutside (covers inner) old new
kept_in_row inner room old new e is k =
    KeptOutside-weaker (λ u v out. row_in inner u v e out) (subst (λ n. KeptOutside (covers (cells_at inner.x inner.y n)) old new) is k)

-- the clusters left of the cursor from index `first` on, as they are shown
pub left_pieces : (mask : Option (List ℕ)) (left : List (List ℕ)) (b : List ℕ) (s : TypedText) (first : ℕ) → left ≡ drop first (graphemes true b)
    → b ≡ s.before → map (unwrap_or mask) left ≡ drop first (shown mask s.before)
left_pieces mask left b s first e is =
    ap (map (unwrap_or mask)) (e ∙ ap (λ t. drop first (graphemes true t)) is) ∙ sym (drop-map (unwrap_or mask) first (graphemes true s.before))

-- and those right of it
pub right_pieces : (mask : Option (List ℕ)) (right : List (List ℕ)) (a : List ℕ) (s : TypedText) → right ≡ graphemes true a → a ≡ s.after
    → map (unwrap_or mask) right ≡ shown mask s.after
right_pieces mask right a s e is = ap (map (unwrap_or mask)) (e ∙ ap (graphemes true) is)

pub sides_painted : (mask : Option (List ℕ)) (x y room next left : ℕ) (s : TypedText) (first : ℕ) (ls rs : List (List ℕ)) (a b c : Screen)
    → ls ≡ drop first (shown mask s.before) → rs ≡ shown mask s.after → columns_from (shown mask s.before) first ≤ room → next ≡ set_end x room ls
    → left ≡ room - (next - x) → Painted (set_clusters x y room no_style ls) a b → Painted (set_clusters next y left no_style rs) b c
    → Painted (set_clusters x y room no_style (shown_pieces mask (with_first s first))) a c
sides_painted mask x y room next left s first ls rs a b c el er fits n l p q =
    let small : columns ls ≤ room = subst (λ t. columns t ≤ room) (sym el) fits in
    subst (λ ts. Painted (set_clusters x y room no_style ts) a c) (ap₂ ◌++◌ el er) (then_painted x y room next left no_style ls rs a b c small n l p q)

-- ---- the text or the placeholder

if_true : {A : Type 0} (b : Bool) (x y : A) → b ≡ true → (if b then x else y) ≡ x
if_true true x y e = refl
if_true false x y e = cc

if_false : {A : Type 0} (b : Bool) (x y : A) → b ≡ false → (if b then x else y) ≡ y
if_false true x y e = cc
if_false false x y e = refl

pub placeholder_painted : {T E : Type 0} (result : Result T E) (i : InputData) (inner : Rect) (s : TypedText) (a b : Screen) → (length (text_of s) == 0) ≡ true
    → OnOk result (Painted (set_layers inner (corner inner) (i.placeholder ∷ []) inner.width) a b) → OnOk result (Painted (text_layers i inner s) a b)
unfolding text_layers
placeholder_painted result i inner s a b e p =
    subst (λ (ls : List Layer). OnOk result (Painted ls a b)) (sym (if_true (length (text_of s) == 0) _ _ e)) p

pub text_painted : {T E : Type 0} (result : Result T E) (i : InputData) (inner : Rect) (s : TypedText) (room : ℕ) (a b : Screen) → (length (text_of s) == 0) ≡ false
    → room ≡ room_of inner → OnOk result (Painted (set_clusters inner.x inner.y room no_style (shown_pieces i.mask s)) a b)
    → OnOk result (Painted (text_layers i inner s) a b)
unfolding text_layers
text_painted result i inner s room a b e is p =
    let here = ap (λ n. set_clusters inner.x inner.y n no_style (shown_pieces i.mask s)) is in
    subst (λ (ls : List Layer). OnOk result (Painted ls a b)) (here ∙ sym (if_false (length (text_of s) == 0) _ _ e)) p

-- ---- inside

pub content_some : (i : InputData) (inner : Rect) (s t : TypedText) (a b : Screen) → has_cell inner ≡ true → t ≡ scrolled i.mask (room_of inner) s
    → Painted (text_layers i inner t) a b → Painted (content_layers i inner s) a b
content_some i inner s t a b e is p =
    subst (λ (ls : List Layer). Painted ls a b) (ap (text_layers i inner) is ∙ sym (if_true (has_cell inner) _ _ e)) p

pub content_none : (i : InputData) (inner : Rect) (s : TypedText) (a : Screen) → has_cell inner ≡ false → Painted (content_layers i inner s) a a
content_none i inner s a e = subst (λ (ls : List Layer). Painted ls a a) (sym (if_false (has_cell inner) _ _ e)) (Painted-none a)

pub rests_at : (i : InputData) (inner : Rect) (s : TypedText) (first : ℕ) → has_cell inner ≡ false → first ≡ s.first → with_first s first ≡ input_after i inner s
rests_at i inner s first e is = ap (with_first s) is ∙ sym (input_rests i s inner e)

pub scrolls_to : (i : InputData) (inner : Rect) (s : TypedText) (first width : ℕ) → width ≡ room_of inner → with_first s first ≡ scrolled i.mask width s
    → with_first s first ≡ scrolled i.mask (room_of inner) s
scrolls_to i inner s first width is e = e ∙ ap (λ n. scrolled i.mask n s) is

pub after_some : (i : InputData) (inner : Rect) (s : TypedText) → has_cell inner ≡ true → input_after i inner s ≡ scrolled i.mask (room_of inner) s
after_some i inner s e = if_true (has_cell inner) _ _ e

seen_if : (b : Bool) (p : Position) → b ≡ true → IsSome (if b then Some p else None)
seen_if true p e = refl
seen_if false p e = cc

seen_at : (area : Rect) (column : ℕ) → has_cell area ≡ true → (0 < room_of area → column < room_of area) → covers area (area.x + column) area.y ≡ true
seen_at area column e h = let within : column < room_of area = h (grind (arith, nat_tests)) in grind (arith, nat_tests)

-- the first cluster moves as little as possible, and the cursor is visible
pub input_moves : (i : InputData) (clip : Rect) (old new : TypedText) → new ≡ input_after i (inner_of i.block clip) old → InputMoves i clip old new
input_moves i clip old new e =
    let inner = inner_of i.block clip in
    let moved = λ (h : has_cell inner ≡ true).
    subst (IsScrolled i.mask (room_of inner) old) (sym (e ∙ after_some i inner old h)) (is_scrolled i.mask (room_of inner) old) in
    record {
      stays = λ h. e ∙ input_rests i old inner h;
      scrolls = moved;
      seen = λ h. seen_if _ _ (seen_at inner (cursor_column i.mask new) h (moved h).seen);
    }

-- ---- the cursor

place_small : (area : Rect) (n : ℕ) → n ≤ 18446744073709551615 → place_in area (saturated n) ≡ place_in area n
place_small area n le = let same : saturated n ≡ n = omega arith in ap (place_in area) same

place_large : (area : Rect) (n : ℕ) → 65535 ≤ n → place_in area n ≡ None
place_large area n le = if_false (covers area (area.x + n) area.y) _ _ (past area n le)
  where
    past : (area : Rect) (n : ℕ) → 65535 ≤ n → covers area (area.x + n) area.y ≡ false
    past area n le = grind (arith, nat_tests)

place_same : (area : Rect) (n : ℕ) → place_in area (saturated n) ≡ place_in area n
place_same area n =
    ⊎_elim (λ (lt : 18446744073709551615 < n). let big : 65535 ≤ saturated n = omega arith in place_large area (saturated n) big ∙ sym (place_large area n (omega arith)))
    (λ (le : n ≤ 18446744073709551615). place_small area n le) (cases_lt 18446744073709551615 n)

pub cursor_is : (i : InputData) (area inner : Rect) (s : TypedText) (ls : List (List ℕ)) (column : ℕ) → inner ≡ inner_of i.block area
    → ls ≡ drop s.first (shown i.mask s.before) → column ≡ saturated (columns ls) → place_in inner column ≡ cursor_in i area s
cursor_is i area inner s ls column ei el ec =
    ap (λ n. place_in inner n) (ec ∙ ap (λ ts. saturated (columns ts)) el) ∙ place_same inner (cursor_column i.mask s)
    ∙ ap (λ r. place_in r (cursor_column i.mask s)) ei

-- ---- texts that do not allocate

each_allocation_free : (symbol : List ℕ) (cs : List (List ℕ)) → IsAllocationFree symbol → All IsAllocationFree (map (unwrap_or (Some symbol)) cs)
each_allocation_free symbol cs h = All-map IsAllocationFree (unwrap_or (Some symbol)) cs (λ k d lt. h)

pub masked_allocation_free : (mask : Option (List ℕ)) (s : TypedText) → IsAllocationFreeMask mask → IsAllocationFreeText mask s
masked_allocation_free None s h = absurd h
masked_allocation_free (Some symbol) s h = record { before = each_allocation_free symbol (graphemes true s.before) h; after = each_allocation_free symbol (graphemes true s.after) h }
