-- The lookups of border symbols find what the tables say.
use Rattle.std.proofs.Common.{
  ◌≡◌,
  Bor,
  ℕ,
  ◌+◌,
  ◌-◌,
  ◌<◌,
  ◌≤◌,
  Bool,
  true,
  false,
  ◌&&◌,
  ◌==◌,
  Option,
  Some,
  None,
  List,
  [],
  ◌∷◌,
  ◌⊎◌,
  inl,
  inr,
  length,
  map,
  get_or,
  nat_eq,
  nat_le,
  unwrap_or,
  is_some,
  if◌then◌else◌,
  refl,
  ◌∙◌,
  ap,
  sym,
  subst,
  arith,
}
use Rattle.std.proofs.lemmas.Bool.{agree_below, agree_below_at, and_parts, eqb-true, false≢true}
use Rattle.std.proofs.lemmas.Bool.Decides.{nat_tests}
use Rattle.std.proofs.lemmas.List.{get_or-map, length-map}
use Rattle.std.proofs.lemmas.Slice.Eq.{bytes_eq-Decides}
use Rattle.std.specs.Cmp.Lexicographic.{pointwise}
use Rattle.std.specs.List.{list_all}
use Rattle.tui_cells.specs.Arms.{same_arms, weight}
use Rattle.tui_cells.specs.BoxDrawing.{Entry, arms_in, known_arms, other_table, plain_arms, plain_table, plain_with, symbol_in}
use Rattle.tui_cells.specs.Chart.{all_arms, arms_number, drawn_arms, place_in_chart, plain_drawn, symbols_by_arms}
use Rattle.tui_cells.specs.declared.arms.Arm.{Arm}
use Rattle.tui_cells.specs.declared.arms.Arm.TheVariants.{Empty, Light, Heavy, Double}
use Rattle.tui_cells.specs.declared.arms.Arms.{Arms}
use Rattle.tui_cells.specs.declared.box_drawing.Drawn.TheVariants.{Other}
use Rattle.tui_cells.specs.declared.box_drawing.TheConstants.{CHART}

same_weight : (a b : Arm) → (weight a == weight b) ≡ true → a ≡ b
same_weight Empty Empty e = refl
same_weight Empty Light e = cc
same_weight Empty Heavy e = cc
same_weight Empty Double e = cc
same_weight Light Empty e = cc
same_weight Light Light e = refl
same_weight Light Heavy e = cc
same_weight Light Double e = cc
same_weight Heavy Empty e = cc
same_weight Heavy Light e = cc
same_weight Heavy Heavy e = refl
same_weight Heavy Double e = cc
same_weight Double Empty e = cc
same_weight Double Light e = cc
same_weight Double Heavy e = cc
same_weight Double Double e = refl

abbrev arms_of : Arm → Arm → Arm → Arm → Arms
arms_of up right down left = record { up = up; right = right; down = down; left = left }

same_parts : (u v r s d e l m : Arm) → u ≡ v → r ≡ s → d ≡ e → l ≡ m → arms_of u r d l ≡ arms_of v s e m
same_parts u v r s d e l m p q i j = cc

pub same_arms_are : (a b : Arms) → same_arms a b ≡ true → a ≡ b
same_arms_are a b e =
    let left = and_parts _ _ e in
    let down = and_parts _ _ left.0 in
    let right = and_parts _ _ down.0 in
    same_parts _ _ _ _ _ _ _ _ (same_weight a.up b.up right.0) (same_weight a.right b.right right.1)
    (same_weight a.down b.down down.1) (same_weight a.left b.left left.1)

-- a test of each arm
abbrev pub all_four : (Arm → Bool) → Bool
all_four p = p Empty && (p Light && (p Heavy && p Double))

each_of_four : (p : Arm → Bool) → all_four p ≡ true → (a : Arm) → p a ≡ true
each_of_four p e Empty = (and_parts (p Empty) _ e).0
each_of_four p e Light = (and_parts (p Light) _ (and_parts (p Empty) _ e).1).0
each_of_four p e Heavy = (and_parts (p Heavy) _ (and_parts (p Light) _ (and_parts (p Empty) _ e).1).1).0
each_of_four p e Double = (and_parts (p Heavy) _ (and_parts (p Light) _ (and_parts (p Empty) _ e).1).1).1

abbrev no_arms : Arms
no_arms = record { up = Empty; right = Empty; down = Empty; left = Empty }

-- each set of arms is at its number
abbrev numbered : Arms → Bool
numbered a = same_arms (get_or all_arms (arms_number a) no_arms) a

all_numbered : all_four (λ u. all_four (λ r. all_four (λ d. all_four (λ l. numbered (record { up = u; right = r; down = d; left = l }))))) ≡ true
unfolding all_arms
all_numbered = refl

at_number : (a : Arms) → get_or all_arms (arms_number a) no_arms ≡ a
at_number a = same_arms_are _ _
    (each_of_four (λ l. numbered (record a { left = l }))
    (each_of_four (λ d. all_four (λ l. numbered (record a { down = d; left = l })))
    (each_of_four (λ r. all_four (λ d. all_four (λ l. numbered (record a { right = r; down = d; left = l }))))
    (each_of_four (λ u. all_four (λ r. all_four (λ d. all_four (λ l. numbered (record { up = u; right = r; down = d; left = l })))))
    all_numbered a.up) a.right) a.down) a.left)

all_length : length all_arms ≡ 256
unfolding all_arms
all_length = refl

pub symbols_length : length symbols_by_arms ≡ 256
unfolding symbols_by_arms all_arms
symbols_length = refl

-- the symbol at the number of a set of arms
pub symbol_at : (a : Arms) → arms_number a < 256 → get_or symbols_by_arms (arms_number a) [] ≡ unwrap_or (plain_with a) []
unfolding symbols_by_arms
symbol_at a small =
    get_or-map (λ arms. unwrap_or (plain_with arms) []) all_arms (arms_number a) no_arms [] (rw all_length small)
    ∙ ap (λ (k : Arms). unwrap_or (plain_with k) []) (at_number a)

-- no symbol of the table is empty
abbrev has_byte : List ℕ → Bool
has_byte [] = false
has_byte (b ∷ bs) = true

all_shown : list_all (λ (e : Entry). has_byte e.0) plain_table ≡ true
unfolding plain_table lib.Utf8.encode
all_shown = refl

shown_in : (es : List Entry) (a : Arms) → list_all (λ (e : Entry). has_byte e.0) es ≡ true → symbol_in es a ≡ Some [] → false ≡ true
unfolding symbol_in
shown_in [] a t e = cc
shown_in (x ∷ es) a t e = shown_if (same_arms x.1 a) x.0 (symbol_in es a) (and_parts (has_byte x.0) _ t).0 (shown_in es a (and_parts (has_byte x.0) _ t).1) e
  where
    shown_if : (b : Bool) (s : List ℕ) (o : Option (List ℕ)) → has_byte s ≡ true →
        (o ≡ Some [] → false ≡ true) → (if b then Some s else o) ≡ Some [] → false ≡ true
    shown_if true [] o h g e = h
    shown_if true (c ∷ cs) o h g e = cc
    shown_if false s o h g e = g e

-- the entry at the number of a set of arms is its symbol, or is empty if there is none
pub none_at : (a : Arms) (s : List ℕ) (b : Bool) → b ≡ (length s == 0) → b ≡ true → s ≡ unwrap_or (plain_with a) [] → None ≡ plain_with a
none_at a s b t u e = none_or (plain_with a) s e (eqb-true (length s) 0 (sym t ∙ u)) (shown_in plain_table a all_shown)
  where
    none_or : (o : Option (List ℕ)) (s : List ℕ) → s ≡ unwrap_or o [] → length s ≡ 0 → (o ≡ Some [] → false ≡ true) → None ≡ o
    none_or None s e z f = refl
    none_or (Some []) s e z f = absurd (false≢true (f refl))
    none_or (Some (c ∷ cs)) s e z f = absurd (omega (arith, ap length e))

pub some_at : (a : Arms) (s : List ℕ) (b : Bool) → b ≡ (length s == 0) → b ≡ false → s ≡ unwrap_or (plain_with a) [] → Some s ≡ plain_with a
some_at a s b t u e = some_or (plain_with a) s e (sym t ∙ u)
  where
    some_or : (o : Option (List ℕ)) (s : List ℕ) → s ≡ unwrap_or o [] → (length s == 0) ≡ false → Some s ≡ o
    some_or None s e z = absurd (false≢true (sym z ∙ rw e refl))
    some_or (Some t) s e z = ap Some e

-- the same arms, or none
abbrev same_drawn : Option Arms → Option Arms → Bool
same_drawn None None = true
same_drawn None (Some b) = false
same_drawn (Some a) None = false
same_drawn (Some a) (Some b) = same_arms a b

same_drawn_are : (o p : Option Arms) → same_drawn o p ≡ true → o ≡ p
same_drawn_are None None e = refl
same_drawn_are None (Some b) e = absurd (false≢true e)
same_drawn_are (Some a) None e = absurd (false≢true e)
same_drawn_are (Some a) (Some b) e = ap Some (same_arms_are a b e)

-- the entry of the chart is what the tables say of the character with these bytes
abbrev right_at : ℕ → ℕ → ℕ → Bool
right_at place middle last =
    same_drawn (plain_drawn (get_or CHART place Other)) (plain_arms (0xE2 ∷ middle ∷ last ∷ []))
    && same_drawn (drawn_arms (get_or CHART place Other)) (known_arms (0xE2 ∷ middle ∷ last ∷ []))

first_right : agree_below (λ k. right_at k 0x94 (0x80 + k)) (λ k. true) 64 ≡ true
unfolding plain_table other_table arms_in lib.Utf8.encode
first_right = refl

second_right : agree_below (λ k. right_at (0x40 + k) 0x95 (0x80 + k)) (λ k. true) 64 ≡ true
unfolding plain_table other_table arms_in lib.Utf8.encode
second_right = refl

place_cases : (t u v : Bool) (x y i : ℕ) → (if t then (if u then Some x else (if v then Some y else None)) else None) ≡ Some i →
    (t ≡ true) × (((u ≡ true) × (i ≡ x)) ⊎ ((v ≡ true) × (i ≡ y)))
place_cases true true v x y i e = (refl, inl (refl, cc))
place_cases true false true x y i e = (refl, inr (refl, cc))
place_cases true false false x y i e = cc
place_cases false u v x y i e = cc

right_first : (last : ℕ) → 0x80 ≤ last → last ≤ 0xBF → right_at (last - 0x80) 0x94 last ≡ true
right_first last low high =
    let back : 0x80 + (last - 0x80) ≡ last = omega arith in
    subst (λ (k : ℕ). right_at (last - 0x80) 0x94 k ≡ true) back
    (agree_below_at (λ k. right_at k 0x94 (0x80 + k)) (λ k. true) 64 (last - 0x80) first_right (omega arith))

right_second : (last : ℕ) → 0x80 ≤ last → last ≤ 0xBF → right_at (last - 0x40) 0x95 last ≡ true
right_second last low high =
    let back : 0x80 + (last - 0x80) ≡ last = omega arith in
    let place : 0x40 + (last - 0x80) ≡ last - 0x40 = omega arith in
    subst (λ (k : ℕ). right_at (last - 0x40) 0x95 k ≡ true) back
    (subst (λ (i : ℕ). right_at i 0x95 (0x80 + (last - 0x80)) ≡ true) place
    (agree_below_at (λ k. right_at (0x40 + k) 0x95 (0x80 + k)) (λ k. true) 64 (last - 0x80) second_right (omega arith)))

-- the entry of the chart is what the tables say of a string
pub record IsRight (place : ℕ) (text : List ℕ) : Type 0 where
  pub within : place < 128
  pub plain : plain_drawn (get_or CHART place Other) ≡ plain_arms text
  pub known : drawn_arms (get_or CHART place Other) ≡ known_arms text

right_of : (place middle last : ℕ) → place < 128 → right_at place middle last ≡ true → IsRight place (0xE2 ∷ middle ∷ last ∷ [])
right_of place middle last small e = record {
  within = small;
  plain = same_drawn_are _ _ (and_parts _ _ e).0;
  known = same_drawn_are _ _ (and_parts _ _ e).1;
}

right_bytes : (first middle last place : ℕ) → place_in_chart (first ∷ middle ∷ last ∷ []) ≡ Some place → IsRight place (first ∷ middle ∷ last ∷ [])
right_bytes first middle last place e =
    let found = place_cases ((first == 0xE2) && (nat_le 0x80 last && nat_le last 0xBF)) (middle == 0x94) (middle == 0x95) (last - 0x80) (last - 0x40) place e in
    let low : 0x80 ≤ last = grind (arith, nat_tests, found.0) in
    let high : last ≤ 0xBF = grind (arith, nat_tests, found.0) in
    let is_first : 0xE2 ≡ first = sym (eqb-true first 0xE2 (and_parts (first == 0xE2) _ found.0).0) in
    subst (λ (k : ℕ). IsRight place (k ∷ middle ∷ last ∷ [])) is_first
    (elim found.1 [
      | inl p ↦
          rw p.1 (subst (λ (k : ℕ). IsRight (last - 0x80) (0xE2 ∷ k ∷ last ∷ [])) (sym (eqb-true middle 0x94 p.0))
          (right_of (last - 0x80) 0x94 last (omega arith) (right_first last low high)))
      | inr p ↦
          rw p.1 (subst (λ (k : ℕ). IsRight (last - 0x40) (0xE2 ∷ k ∷ last ∷ [])) (sym (eqb-true middle 0x95 p.0))
          (right_of (last - 0x40) 0x95 last (omega arith) (right_second last low high)))
    ])

pub in_chart : (text : List ℕ) (place : ℕ) → place_in_chart text ≡ Some place → IsRight place text
in_chart [] place e = cc
in_chart (a ∷ []) place e = cc
in_chart (a ∷ (b ∷ [])) place e = cc
in_chart (a ∷ (b ∷ (c ∷ []))) place e = right_bytes a b c place e
in_chart (a ∷ (b ∷ (c ∷ (d ∷ ds)))) place e = cc

-- each symbol of the tables has an index in the chart
abbrev all_placed : List Entry → Bool
all_placed es = list_all (λ (e : Entry). is_some (place_in_chart e.0)) es

plain_placed : all_placed plain_table ≡ true
unfolding plain_table lib.Utf8.encode
plain_placed = refl

other_placed : all_placed other_table ≡ true
unfolding other_table lib.Utf8.encode
other_placed = refl

none_in : (es : List Entry) (text : List ℕ) → all_placed es ≡ true → place_in_chart text ≡ None → arms_in es text ≡ None
unfolding arms_in
none_in [] text t e = refl
none_in (x ∷ es) text t e =
    none_if (pointwise nat_eq x.0 text) x.0 text x.1 (arms_in es text) refl (and_parts (is_some (place_in_chart x.0)) _ t).0 e
    (none_in es text (and_parts (is_some (place_in_chart x.0)) _ t).1 e)
  where
    none_if : (b : Bool) (s text : List ℕ) (a : Arms) (o : Option Arms) → pointwise nat_eq s text ≡ b → is_some (place_in_chart s) ≡ true →
        place_in_chart text ≡ None → o ≡ None → (if b then Some a else o) ≡ None
    none_if true s text a o same placed e g =
        absurd (false≢true (subst (λ (p : Option ℕ). is_some p ≡ true) e
        (subst (λ (k : List ℕ). is_some (place_in_chart k) ≡ true) ((bytes_eq-Decides s text).0 same) placed)))
    none_if false s text a o same placed e g = g

pub not_plain : (text : List ℕ) → place_in_chart text ≡ None → None ≡ plain_arms text
not_plain text e = sym (none_in plain_table text plain_placed e)

pub not_known : (text : List ℕ) → place_in_chart text ≡ None → None ≡ known_arms text
not_known text e = sym (rw (none_in plain_table text plain_placed e) (none_in other_table text other_placed e))

pub as_many : (xs : List (Bor (List ℕ))) → map (λ s. s.now) xs ≡ symbols_by_arms → length xs ≡ 256
as_many xs e = sym (length-map xs (λ (s : Bor (List ℕ)). s.now)) ∙ (ap length e ∙ symbols_length)

-- what the code finds at the number of a set of arms
pub found_at : (xs : List (Bor (List ℕ))) (i : ℕ) (d : Bor (List ℕ)) (a : Arms) → map (λ s. s.now) xs ≡ symbols_by_arms →
    i ≡ arms_number a → i < 256 → (get_or xs i d).now ≡ unwrap_or (plain_with a) []
found_at xs i d a e n small =
    let within : i < length xs = rw (as_many xs e) small in
    let within_all : arms_number a < 256 = subst (λ (k : ℕ). k < 256) n small in
    sym (get_or-map (λ (s : Bor (List ℕ)). s.now) xs i d [] within)
    ∙ (ap (λ (ys : List (List ℕ)). get_or ys i []) e ∙ (ap (λ (k : ℕ). get_or symbols_by_arms k []) n ∙ symbol_at a within_all))
