-- Laws of joining border symbols.
use Rattle.std.proofs.Common.{
  ◌≡◌,
  ◌⊎◌,
  inl,
  inr,
  ℕ,
  ◌≤◌,
  Bool,
  true,
  false,
  ◌&&◌,
  ◌||◌,
  ◌==◌,
  not,
  Option,
  Some,
  None,
  List,
  [],
  ◌∷◌,
  length,
  nat_le,
  unwrap_or,
  IsSome,
  is_some,
  nat_eq,
  subst,
  if◌then◌else◌,
  refl,
  ◌∙◌,
  ap,
  arith,
}
use Rattle.std.proofs.lemmas.Bool.{and_parts, false≢true, or_parts}
use Rattle.std.proofs.lemmas.Bool.Decides.{nat_tests}
use Rattle.std.specs.Cmp.Lexicographic.{pointwise}
use Rattle.std.specs.List.{list_all}
use Rattle.std.specs.Option.{option_or}
use Rattle.tui_cells.specs.Arms.{agree, all_agree, has_arm, joined_arms, joined_arm, lightened_arms, lightened_arm, same_arms, weight}
use Rattle.tui_cells.specs.BoxDrawing.{Entry, arms_in, known_arms, other_table, plain_arms, plain_table, plain_with, symbol_in}
use Rattle.tui_cells.specs.Cell.{IsAllocationFree}
use Rattle.tui_cells.specs.Merging.{EitherOrderJoins, EveryJoinExists, FuzzyAlwaysJoins, PlainSymbolsJoin, UnknownGivesNew, both_arms, exact, exact_for, fuzzy, fuzzy_for, merged}
use Rattle.tui_cells.specs.declared.arms.Arm.{Arm}
use Rattle.tui_cells.specs.declared.arms.Arm.TheVariants.{Empty, Light, Heavy, Double}
use Rattle.tui_cells.specs.declared.arms.Arms.{Arms}
use Rattle.tui_cells.specs.declared.merge_strategy.MergeStrategy.{MergeStrategy}
use Rattle.tui_cells.specs.declared.merge_strategy.MergeStrategy.TheVariants.{Replace, Exact, Fuzzy}

-- a test of each arm that is not double
abbrev all_single : (Arm → Bool) → Bool
all_single p = p Empty && (p Light && p Heavy)

each_single : (p : Arm → Bool) → all_single p ≡ true → (a : Arm) → (weight a == 3) ≡ false → p a ≡ true
each_single p e Empty s = (and_parts (p Empty) _ e).0
each_single p e Light s = (and_parts (p Light) _ (and_parts (p Empty) _ e).1).0
each_single p e Heavy s = (and_parts (p Light) _ (and_parts (p Empty) _ e).1).1
each_single p e Double s = cc

-- there is no arm, or there is a symbol
abbrev drawn : Arms → Bool
drawn a = not (has_arm a) || is_some (plain_with a)

-- checks each of the 81 sets of arms that are not double
all_drawn : all_single (λ u. all_single (λ r. all_single (λ d. all_single (λ l. drawn (record { up = u; right = r; down = d; left = l }))))) ≡ true
unfolding plain_table symbol_in
all_drawn = refl

some_of : {A : Type 0} (b : Bool) (o : Option A) → b ≡ true → (not b || is_some o) ≡ true → IsSome o
some_of true (Some x) e f = refl
some_of true None e f = absurd (false≢true f)
some_of false o e f = absurd (false≢true e)

pub every_join_exists : EveryJoinExists
every_join_exists a some single =
    let l = or_parts _ _ single in
    let d = or_parts _ _ l.0 in
    let r = or_parts _ _ d.0 in
    some_of (has_arm a) (plain_with a) some
    (each_single (λ k. drawn (record a { left = k }))
    (each_single (λ j. all_single (λ k. drawn (record a { down = j; left = k })))
    (each_single (λ i. all_single (λ j. all_single (λ k. drawn (record a { right = i; down = j; left = k }))))
    (each_single (λ h. all_single (λ i. all_single (λ j. all_single (λ k. drawn (record { up = h; right = i; down = j; left = k })))))
    all_drawn a.up r.0) a.right r.1) a.down d.1) a.left l.1)

-- what is found in a table of short symbols is short
abbrev all_short : List Entry → Bool
all_short es = list_all (λ (e : Entry). nat_le (length e.0) 8) es

short_in : (es : List Entry) (a : Arms) (new : List ℕ) → all_short es ≡ true → length new ≤ 8 → length (unwrap_or (symbol_in es a) new) ≤ 8
unfolding symbol_in
short_in [] a new e h = h
short_in (x ∷ es) a new e h = short_if (same_arms x.1 a) x.0 (symbol_in es a) new (and_parts (nat_le (length x.0) 8) (all_short es) e).0
    (short_in es a new (and_parts (nat_le (length x.0) 8) (all_short es) e).1 h)
  where
    short_if : (b : Bool) (s : List ℕ) (o : Option (List ℕ)) (new : List ℕ) → nat_le (length s) 8 ≡ true →
        length (unwrap_or o new) ≤ 8 → length (unwrap_or (if b then Some s else o) new) ≤ 8
    short_if true s o new e k = grind (arith, nat_tests)
    short_if false s o new e k = k

plain_short : all_short plain_table ≡ true
unfolding plain_table lib.Utf8.encode
plain_short = refl

short_or : (o p : Option (List ℕ)) (new : List ℕ) → length (unwrap_or o new) ≤ 8 → length (unwrap_or p new) ≤ 8 → length (unwrap_or (option_or o p) new) ≤ 8
short_or None p new h k = k
short_or (Some s) p new h k = h

exact_short : (o : Option Arms) (new : List ℕ) → length new ≤ 8 → length (exact_for o new) ≤ 8
exact_short None new h = h
exact_short (Some a) new h = short_in plain_table a new plain_short h

fuzzy_short : (o : Option Arms) (new : List ℕ) → length new ≤ 8 → length (fuzzy_for o new) ≤ 8
fuzzy_short None new h = h
fuzzy_short (Some a) new h =
    short_or (plain_with a) (plain_with (lightened_arms a)) new (short_in plain_table a new plain_short h) (short_in plain_table (lightened_arms a) new plain_short h)

-- joining a symbol does not allocate if the new symbol does not
pub merged_allocation_free : (s : MergeStrategy) (old new : List ℕ) → IsAllocationFree new → IsAllocationFree (merged s old new)
unfolding exact fuzzy
merged_allocation_free Replace old new h = h
merged_allocation_free Exact old new h = exact_short (both_arms (plain_arms old) (plain_arms new)) new h
merged_allocation_free Fuzzy old new h = fuzzy_short (both_arms (known_arms old) (known_arms new)) new h

-- if each entry of a table has an arm, what is found in the table has an arm
abbrev all_armed : List Entry → Bool
all_armed es = list_all (λ (e : Entry). has_arm e.1) es

armed_in : (es : List Entry) (symbol : List ℕ) (a : Arms) → all_armed es ≡ true → arms_in es symbol ≡ Some a → has_arm a ≡ true
unfolding arms_in
armed_in [] symbol a e f = cc
armed_in (x ∷ es) symbol a e f = armed_if (pointwise nat_eq x.0 symbol) x.1 (arms_in es symbol) a (and_parts (has_arm x.1) (all_armed es) e).0
    (armed_in es symbol a (and_parts (has_arm x.1) (all_armed es) e).1) f
  where
    armed_if : (b : Bool) (k : Arms) (o : Option Arms) (a : Arms) → has_arm k ≡ true →
        (o ≡ Some a → has_arm a ≡ true) → (if b then Some k else o) ≡ Some a → has_arm a ≡ true
    armed_if true k o a h g f = subst (λ (p : Option Arms). has_arm (unwrap_or p k) ≡ true) f h
    armed_if false k o a h g f = g f

plain_armed : all_armed plain_table ≡ true
unfolding plain_table
plain_armed = refl

other_armed : all_armed other_table ≡ true
unfolding other_table
other_armed = refl

known_armed : (symbol : List ℕ) (a : Arms) → known_arms symbol ≡ Some a → has_arm a ≡ true
known_armed symbol a e =
    either (plain_arms symbol) (arms_in other_table symbol) a (armed_in plain_table symbol a plain_armed) (armed_in other_table symbol a other_armed) e
  where
    either : (o p : Option Arms) (a : Arms) → (o ≡ Some a → has_arm a ≡ true) → (p ≡ Some a → has_arm a ≡ true) → option_or o p ≡ Some a → has_arm a ≡ true
    either None p a f g e = g e
    either (Some k) p a f g e = f e

-- a join keeps the arms of both, and a lightened arm is not double and not lost
lit : (old new : Arm) → (weight (lightened_arm (joined_arm old new)) == 0) ≡ ((weight new == 0) && (weight old == 0))
lit Empty Empty = refl
lit Light Empty = refl
lit Heavy Empty = refl
lit Double Empty = refl
lit old Light = refl
lit old Heavy = refl
lit old Double = refl

single : (a : Arm) → (weight (lightened_arm a) == 3) ≡ false
single Empty = refl
single Light = refl
single Heavy = refl
single Double = refl

some_arm : (a b c d p q r s : Bool) → not (((a && b) && c) && d) ≡ true → not ((((a && p) && (b && q)) && (c && r)) && (d && s)) ≡ true
some_arm a b c d p q r s e = grind arith

pub fuzzy_always_joins : FuzzyAlwaysJoins
fuzzy_always_joins old new a b e f =
    every_join_exists (lightened_arms (joined_arms a b))
    (rw (lit a.up b.up, lit a.right b.right, lit a.down b.down, lit a.left b.left)
    (some_arm (weight b.up == 0) (weight b.right == 0) (weight b.down == 0) (weight b.left == 0)
    (weight a.up == 0) (weight a.right == 0) (weight a.down == 0) (weight a.left == 0) (known_armed new b f)))
    (rw (single (joined_arm a.up b.up), single (joined_arm a.right b.right), single (joined_arm a.down b.down), single (joined_arm a.left b.left)) refl)

-- if either has no arms, nothing is joined
none_known : (o p : Option Arms) → option_or o p ≡ None → o ≡ None
none_known None p e = refl
none_known (Some a) p e = cc

unknown_both : (o p : Option Arms) → (o ≡ None) ⊎ (p ≡ None) → both_arms o p ≡ None
unknown_both None p e = refl
unknown_both (Some a) None e = refl
unknown_both (Some a) (Some b) e = elim e [ inl p ↦ cc | inr p ↦ cc ]

pub unknown_gives_new : UnknownGivesNew
unfolding exact fuzzy
unknown_gives_new Replace old new e = refl
unknown_gives_new Exact old new e =
    rw (unknown_both (plain_arms old) (plain_arms new) (elim e [ inl p ↦ inl (none_known _ _ p) | inr p ↦ inr (none_known _ _ p) ])) refl
unknown_gives_new Fuzzy old new e = rw (unknown_both (known_arms old) (known_arms new) e) refl

-- both strategies join two plain symbols to the symbol with the joined arms
plain_known : (symbol : List ℕ) (a : Arms) → plain_arms symbol ≡ Some a → known_arms symbol ≡ Some a
plain_known symbol a e = rw e refl

pub plain_symbols_join : PlainSymbolsJoin
unfolding exact fuzzy
plain_symbols_join old new symbol a b e f g = (rw (e, f, g) refl, rw (plain_known old a e, plain_known new b f, g) refl)

-- arms that agree join to the same arm in either order
same_join : (a b : Arm) → agree a b ≡ true → joined_arm b a ≡ joined_arm a b
same_join Empty Empty e = refl
same_join Empty Light e = refl
same_join Empty Heavy e = refl
same_join Empty Double e = refl
same_join Light Empty e = refl
same_join Light Light e = refl
same_join Light Heavy e = cc
same_join Light Double e = cc
same_join Heavy Empty e = refl
same_join Heavy Light e = cc
same_join Heavy Heavy e = refl
same_join Heavy Double e = cc
same_join Double Empty e = refl
same_join Double Light e = cc
same_join Double Heavy e = cc
same_join Double Double e = refl

same_joined : (a b : Arms) → all_agree a b ≡ true → joined_arms b a ≡ joined_arms a b
same_joined a b e =
    let left = and_parts _ _ e in
    let down = and_parts _ _ left.0 in
    let right = and_parts _ _ down.0 in
    rw (same_join a.up b.up right.0, same_join a.right b.right right.1, same_join a.down b.down down.1, same_join a.left b.left left.1) refl

pub either_order_joins : EitherOrderJoins
either_order_joins old new symbol a b e f g h = plain_symbols_join new old symbol b a f e (ap plain_with (same_joined a b h) ∙ g)

pub blank_unknown : known_arms (32 ∷ []) ≡ None
unfolding plain_table other_table arms_in lib.Utf8.encode
blank_unknown = refl
