-- Laws of strokes.
use Rattle.std.proofs.Common.{◌≡◌, ℕ, Bool, true, false, ◌&&◌, ◌||◌, Option, List, [], ◌∷◌, ◌++◌, Some, None, option_map, Result, Ok, Err, OnErr, if◌then◌else◌, refl, ◌∙◌, ap, sym, arith}
use Rattle.std.proofs.lemmas.Bool.Decides.{nat_tests}
use Rattle.tui_cells.specs.declared.rect.Rect.{Rect}
use Rattle.tui_cells.specs.Rect.{covers, is_empty}
use Rattle.tui_cells.specs.Layers.{StayIn}
use Rattle.tui_cells.specs.Cell.{Look, Edit, edited}
use Rattle.tui_cells.specs.Buffer.{Screen, cell_at, look_at}
use Rattle.tui_cells.specs.Layers.{EditedPrefix, Painted, KeptOutside, SameCells, Layer, before, layers_at, over, edits, stroke}
use Rattle.tui_cells.specs.Stays.{StayIn-stroke}

-- at one position: the first two regions do not meet, and the third is their union
abbrev pub Joins : (r s t : Bool) → Type 0
Joins r s t = ((r && s) ≡ false) × (t ≡ (r || s))

-- the layers of one list and then of another
pub layers_at-append : (ls ms : List Layer) (x y : ℕ) (c : Look) → layers_at (ls ++ ms) x y c ≡ layers_at ms x y (layers_at ls x y c)
layers_at-append [] ms x y c = refl
layers_at-append (l ∷ ls) ms x y c = layers_at-append ls ms x y (if l.region x y then edited l.edit c else c)

append_at : (ls ms : List Layer) (x y : ℕ) (o : Option Look) →
    option_map (layers_at ms x y) (option_map (layers_at ls x y) o) ≡ option_map (layers_at (ls ++ ms) x y) o
append_at ls ms x y None = refl
append_at ls ms x y (Some c) = ap Some (sym (layers_at-append ls ms x y c))

-- one list of layers and then another
pub Painted-append : (ls ms : List Layer) (a b c : Screen) → Painted ls a b → Painted ms b c → Painted (ls ++ ms) a c
Painted-append ls ms a b c p q = record {
  area = q.area ∙ p.area;
  cells = λ x y. q.cells x y ∙ (ap (option_map (layers_at ms x y)) (p.cells x y) ∙ append_at ls ms x y (cell_at a x y));
}

-- the same with implicit lists and screens
pub Painted-then : {ls ms : List Layer} {a b c : Screen} → Painted ls a b → Painted ms b c → Painted (ls ++ ms) a c
Painted-then {ls = ls} {ms = ms} {a = a} {b = b} {c = c} p q = Painted-append ls ms a b c p q

pub KeptOutside-then : {region : ℕ → ℕ → Bool} {a b c : Screen} → KeptOutside region a b → KeptOutside region b c → KeptOutside region a c
KeptOutside-then p q = record { area = q.area ∙ p.area; cells = λ x y out. q.cells x y out ∙ p.cells x y out }

same_at : (ls ms : List Layer) (x y : ℕ) (o : Option Look) → ((c : Look) → layers_at ls x y c ≡ layers_at ms x y c) →
    option_map (layers_at ls x y) o ≡ option_map (layers_at ms x y) o
same_at ls ms x y None e = refl
same_at ls ms x y (Some c) e = ap Some (e c)

-- strokes with the same effect at each position
pub Painted-same : {ls ms : List Layer} {a b : Screen} → ((x y : ℕ) (c : Look) → layers_at ls x y c ≡ layers_at ms x y c) → Painted ls a b → Painted ms a b
Painted-same {ls = ls} {ms = ms} {a = a} e p = record { area = p.area; cells = λ x y. p.cells x y ∙ same_at ls ms x y (cell_at a x y) (e x y) }

none_at : (x y : ℕ) (o : Option Look) → o ≡ option_map (layers_at [] x y) o
none_at x y None = refl
none_at x y (Some c) = refl

-- no stroke
pub Painted-none : (b : Screen) → Painted [] b b
Painted-none b = record { area = refl; cells = λ x y. none_at x y (cell_at b x y) }

over_true : (R : ℕ → ℕ → Bool) (es : List Edit) (x y : ℕ) (c : Look) → R x y ≡ true → layers_at (over R es) x y c ≡ edits es c
over_true R [] x y c e = refl
over_true R (f ∷ es) x y c e = ap (λ (b : Bool). layers_at (over R es) x y (if b then edited f c else c)) e ∙ over_true R es x y (edited f c) e

over_false : (R : ℕ → ℕ → Bool) (es : List Edit) (x y : ℕ) (c : Look) → R x y ≡ false → layers_at (over R es) x y c ≡ c
over_false R [] x y c e = refl
over_false R (f ∷ es) x y c e = ap (λ (b : Bool). layers_at (over R es) x y (if b then edited f c else c)) e ∙ over_false R es x y c e

join_over : (R S T : ℕ → ℕ → Bool) (es : List Edit) (x y : ℕ) (r s t : Bool) → R x y ≡ r → S x y ≡ s → T x y ≡ t → Joins r s t →
    (c : Look) → layers_at (over S es) x y (layers_at (over R es) x y c) ≡ layers_at (over T es) x y c
join_over R S T es x y true true t p q u j c = cc
join_over R S T es x y true false t p q u j c =
    over_false S es x y (layers_at (over R es) x y c) q ∙ (over_true R es x y c p ∙ sym (over_true T es x y c (u ∙ j.1)))
join_over R S T es x y false true t p q u j c =
    ap (layers_at (over S es) x y) (over_false R es x y c p) ∙ (over_true S es x y c q ∙ sym (over_true T es x y c (u ∙ j.1)))
join_over R S T es x y false false t p q u j c =
    ap (layers_at (over S es) x y) (over_false R es x y c p) ∙ (over_false S es x y c q ∙ sym (over_false T es x y c (u ∙ j.1)))

join_over_cell : (R S T : ℕ → ℕ → Bool) (es : List Edit) (x y : ℕ) (o : Option Look) → Joins (R x y) (S x y) (T x y) →
    option_map (layers_at (over S es) x y) (option_map (layers_at (over R es) x y) o) ≡ option_map (layers_at (over T es) x y) o
join_over_cell R S T es x y None j = refl
join_over_cell R S T es x y (Some c) j = ap Some (join_over R S T es x y (R x y) (S x y) (T x y) refl refl refl j c)

-- the same edits over two regions that do not meet are those edits over their union
pub Painted-over : (R S T : ℕ → ℕ → Bool) (es : List Edit) (a b c : Screen) →
    Painted (over R es) a b → Painted (over S es) b c →
    ((x y : ℕ) → Joins (R x y) (S x y) (T x y)) → Painted (over T es) a c
Painted-over R S T es a b c p q j = record {
  area = q.area ∙ p.area;
  cells = λ x y. q.cells x y ∙ (ap (option_map (layers_at (over S es) x y)) (p.cells x y) ∙ join_over_cell R S T es x y (cell_at a x y) (j x y));
}

same_place : (R S : ℕ → ℕ → Bool) (es : List Edit) (x y : ℕ) (r : Bool) → R x y ≡ r → R x y ≡ S x y → (c : Look) →
    layers_at (over R es) x y c ≡ layers_at (over S es) x y c
same_place R S es x y true p e c = over_true R es x y c p ∙ sym (over_true S es x y c (sym e ∙ p))
same_place R S es x y false p e c = over_false R es x y c p ∙ sym (over_false S es x y c (sym e ∙ p))

-- the same edits over regions that agree
pub Painted-region : (R S : ℕ → ℕ → Bool) (es : List Edit) (a b : Screen) →
    Painted (over R es) a b → ((x y : ℕ) → R x y ≡ S x y) → Painted (over S es) a b
Painted-region R S es a b p e = Painted-same (λ x y c. same_place R S es x y (R x y) refl (e x y) c) p

-- the same edits over regions that agree in the buffer
pub Painted-within : (R S : ℕ → ℕ → Bool) (es : List Edit) (a b : Screen) →
    Painted (over R es) a b → ((x y : ℕ) → covers a.area x y ≡ true → R x y ≡ S x y) → Painted (over S es) a b
Painted-within R S es a b p e = record {
  area = p.area;
  cells = λ x y. p.cells x y ∙ at_place x y (covers a.area x y) refl;
}
  where
    at_place : (x y : ℕ) (here : Bool) → covers a.area x y ≡ here →
        option_map (layers_at (over R es) x y) (if here then Some (look_at a x y) else None)
        ≡ option_map (layers_at (over S es) x y) (if here then Some (look_at a x y) else None)
    at_place x y true is = ap Some (same_place R S es x y (R x y) refl (e x y is) (look_at a x y))
    at_place x y false is = refl

-- strokes with the same effect at each position of the buffer
pub Painted-inside : {ls ms : List Layer} {a b : Screen} →
    ((x y : ℕ) → covers a.area x y ≡ true → (c : Look) → layers_at ls x y c ≡ layers_at ms x y c) → Painted ls a b → Painted ms a b
Painted-inside {ls = ls} {ms = ms} {a = a} e p = record {
  area = p.area;
  cells = λ x y. p.cells x y ∙ at_place x y (covers a.area x y) refl;
}
  where
    at_place : (x y : ℕ) (here : Bool) → covers a.area x y ≡ here →
        option_map (layers_at ls x y) (if here then Some (look_at a x y) else None) ≡ option_map (layers_at ms x y) (if here then Some (look_at a x y) else None)
    at_place x y true is = ap Some (e x y is (look_at a x y))
    at_place x y false is = refl

pub KeptOutside-weaker : {R S : ℕ → ℕ → Bool} {a b : Screen} → ((x y : ℕ) → S x y ≡ false → R x y ≡ false) → KeptOutside R a b → KeptOutside S a b
KeptOutside-weaker e p = record { area = p.area; cells = λ x y out. p.cells x y (e x y out) }

-- an empty rectangle covers no position
pub covers_nowhere : (clip : Rect) → is_empty clip ≡ true → (x y : ℕ) → covers clip x y ≡ false
covers_nowhere clip e x y = grind (arith, nat_tests)

still_at : (ls : List Layer) (x y : ℕ) (o : Option Look) → ((c : Look) → layers_at ls x y c ≡ c) → o ≡ option_map (layers_at ls x y) o
still_at ls x y None e = refl
still_at ls x y (Some c) e = ap Some (sym (e c))

-- strokes that stay in an empty region do nothing
pub Painted-still : {region : ℕ → ℕ → Bool} {ls : List Layer} (b : Screen) → StayIn region ls → ((x y : ℕ) → region x y ≡ false) → Painted ls b b
Painted-still {ls = ls} b s none = record {
  area = refl;
  cells = λ x y. still_at ls x y (cell_at b x y) (s.cell x y (none x y));
}

-- in particular, strokes that stay in an empty clip
pub Painted-empty : {ls : List Layer} (clip : Rect) (b : Screen) → StayIn (covers clip) ls → is_empty clip ≡ true → Painted ls b b
Painted-empty clip b s e = Painted-still b s (covers_nowhere clip e)

-- strokes that stay in an empty region change nothing
pub Painted-nowhere : {region : ℕ → ℕ → Bool} {ls : List Layer} {a b : Screen} → StayIn region ls → ((x y : ℕ) → region x y ≡ false) →
    Painted ls a b → SameCells a b
Painted-nowhere {ls = ls} {a = a} s none p = record {
  area = p.area;
  cells = λ x y. p.cells x y ∙ sym (still_at ls x y (cell_at a x y) (s.cell x y (none x y)));
}

-- strokes that stay in a region change nothing outside it
pub Painted-kept : {region : ℕ → ℕ → Bool} {ls : List Layer} {a b : Screen} → StayIn region ls → Painted ls a b → KeptOutside region a b
Painted-kept {ls = ls} {a = a} s p = record {
  area = p.area;
  cells = λ x y out. p.cells x y ∙ sym (still_at ls x y (cell_at a x y) (s.cell x y out));
}

-- if the edits have reached a position of an area and nothing else has changed, a first part of the area got the edit
pub edited_prefix : {T E : Type 0} (r : Result T E) (area : Rect) (edit : Edit) (x y : ℕ) (a b c : Screen) → Painted (stroke (before area x y) edit) a b → c ≡ b →
    OnErr r (EditedPrefix area edit a c)
edited_prefix (Ok k) area edit x y a b c p e = tt
edited_prefix (Err k) area edit x y a b c p e = record { column = x; row = y; cells = rw e p }

-- if nothing has changed, an empty first part got the edit
pub none_edited : {T E : Type 0} (r : Result T E) (area : Rect) (edit : Edit) (b : Screen) → OnErr r (EditedPrefix area edit b b)
none_edited (Ok x) area edit b = tt
none_edited (Err e) area edit b =
    record { column = 0; row = 0; cells = Painted-still b (StayIn-stroke (before area 0 0) edit (λ x y out. out)) (λ x y. nowhere x y) }
  where
    nowhere : (x y : ℕ) → before area 0 0 x y ≡ false
    nowhere x y = grind (arith, nat_tests)
