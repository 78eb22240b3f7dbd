-- A value that is not of its kind has a fault, and the steps of a fault lead to what it says is there.
use Rattle.std.proofs.Common.{Bool, true, false, ◌&&◌, nat_le, if◌then◌else◌, add-zero, zero-add, arith, suc, ◌≡◌, ℕ, ◌+◌, List, [], ◌∷◌, ◌++◌, IsSome, Option, Some, None, option_map, option_and_then, Result, Ok, Err, ◌⊎◌, inl, inr, ⊎_elim, codes, refl, sym, ap, ◌∙◌, subst}
use Rattle.std.proofs.Math.Numerals.{suc-eq-add-one}
use Rattle.std.specs.Option.{option_or}
use Rattle.serde_json.specs.Data.{Data, Items, no_items, item, null, boolean, number, string, array, object}
use Rattle.serde_json.specs.Find.{as_array, at, get, get_item}
use Rattle.tui_json.specs.Constraint.{constraint_fault, long_fault, ratio_fault, short_fault}
use Rattle.tui_json.specs.Faults as faults
use Rattle.tui_json.specs.Faults.{FaultData, Leads, StepData, WantedData, ◌or◌, elements_fault, fault_of, given_member_fault, index, inside, inside_at, items_fault, key, member_fault, members_fault, no_parts, not_allowed, optional_member_fault, pair_fault, step_in, two_values, value_at, value_by, whole}
use Rattle.serde_json.specs.Events.{items_len}
use Rattle.tui_json.specs.Objects.{are_objects, if_objects, is_object, object_of, objects_within}
use Rattle.tui_json.specs.Number.{u16_of, u32_of}
use Rattle.tui_json.specs.Members.{elements_within, given_member, if_any, if_counted, member, optional_member, pair_of, unless_null}
use Rattle.tui_json.specs.Refusals.{◌>>=◌, given, numbered, optional, or_reject, required}

-- ---- faults are found

one_of : {A : Type 0} (first : Option A) (x : A) → IsSome (option_or first (Some x))
one_of None x = refl
one_of (Some y) x = refl

pub not_of_kind : {A : Type 0} (kind : Data → Option A) (wanted : WantedData) (parts : Data → Option FaultData) (d : Data) →
    kind d ≡ None → IsSome (fault_of kind wanted parts d)
not_of_kind kind wanted parts d e = rw e (one_of (parts d) (whole wanted d))

pub some_inside : (step : StepData) (fault : Option FaultData) → IsSome fault → IsSome (inside step fault)
some_inside step (Some f) is = refl
some_inside step None is = cc

pub bad_member : {A : Type 0} (kind : Data → Option A) (wanted : WantedData) (parts : Data → Option FaultData) (name : List ℕ) (d : Data) →
    member kind name d ≡ None → IsSome (member_fault wanted (fault_of kind wanted parts) name d)
bad_member {A} kind wanted parts name d e = by_object (is_object d) refl
  where
    by_get : (found : Option Data) → get name d ≡ found → is_object d ≡ true → IsSome (member_fault wanted (fault_of kind wanted parts) name d)
    by_get None is so = rw (so, is) refl
    by_get (Some m) is so = rw (so, is)
        (some_inside (key name) (fault_of kind wanted parts m) (not_of_kind kind wanted parts m (sym (ap (option_and_then kind) is) ∙ e)))

    by_object : (b : Bool) → is_object d ≡ b → IsSome (member_fault wanted (fault_of kind wanted parts) name d)
    by_object true so = by_get (get name d) refl so
    by_object false so = rw so refl

unread : {A : Type 0} (kind : Data → Option A) (m : Data) → if_any kind (Some m) ≡ None → kind m ≡ None
unread {A = A} kind m e = by_kind (kind m) e
  where
    by_kind : (x : Option A) → option_map Some x ≡ None → x ≡ None
    by_kind None e = refl
    by_kind (Some a) e = cc

never : {A : Type 0} {x : A} → Some x ≡ None → ⊥
never e = cc

other : {A : Type 0} {x : A} → Some None ≡ Some (Some x) → ⊥
other e = cc

pub bad_optional_member : {A : Type 0} (kind : Data → Option A) (wanted : WantedData) (parts : Data → Option FaultData) (name : List ℕ) (d : Data) →
    optional_member kind name d ≡ None → IsSome (optional_member_fault (fault_of kind wanted parts) name d)
bad_optional_member {A} kind wanted parts name d e = by_value (option_and_then unless_null (get name d)) refl
  where
    by_value : (found : Option Data) → option_and_then unless_null (get name d) ≡ found →
        IsSome (optional_member_fault (fault_of kind wanted parts) name d)
    by_value None is = absurd (never (sym (ap (if_any kind) is) ∙ e))
    by_value (Some m) is =
        rw is (some_inside (key name) (fault_of kind wanted parts m) (not_of_kind kind wanted parts m (unread kind m (sym (ap (if_any kind) is) ∙ e))))

pub bad_given_member : {A : Type 0} (kind : Data → Option A) (wanted : WantedData) (parts : Data → Option FaultData) (name : List ℕ) (d : Data) →
    given_member kind name d ≡ None → IsSome (given_member_fault (fault_of kind wanted parts) name d)
bad_given_member {A} kind wanted parts name d e = by_get (get name d) refl
  where
    by_get : (found : Option Data) → get name d ≡ found → IsSome (given_member_fault (fault_of kind wanted parts) name d)
    by_get None is = absurd (never (sym (ap (if_any kind) is) ∙ e))
    by_get (Some m) is =
        rw is (some_inside (key name) (fault_of kind wanted parts m) (not_of_kind kind wanted parts m (unread kind m (sym (ap (if_any kind) is) ∙ e))))

-- a member that is there has the fault that it is not allowed
pub bad_value : (wanted : WantedData) (name : List ℕ) (d m : Data) → get name d ≡ Some m → IsSome (not_allowed wanted name d)
bad_value wanted name d m is = rw is refl

pub or_first : (a b : Option FaultData) → IsSome a → IsSome (a or b)
or_first (Some f) b is = refl
or_first None b is = cc

pub or_second : (a b : Option FaultData) → IsSome b → IsSome (a or b)
or_second (Some f) b is = refl
or_second None b is = is

pub some_inside_at : (name : List ℕ) (i : ℕ) (fault : Data → Option FaultData) (d m : Data) → value_at name i d ≡ Some m → IsSome (fault m) →
    IsSome (inside_at name i fault d)
some_inside_at name i fault d m there some = rw there (some_inside (key name) (inside (index i) (fault m)) (some_inside (index i) (fault m) some))

-- ---- steps lead to what is there

from_inside : (steps : List StepData) (step : StepData) (d m : Data) → step_in step d ≡ Some m → value_by (steps ++ step ∷ []) d ≡ value_by steps m
unfolding value_by
from_inside [] step d m is = is
from_inside (s ∷ before) step d m is = ap (option_and_then (step_in s)) (from_inside before step d m is)

pub leads_inside : (step : StepData) (fault : Option FaultData) (d m : Data) → step_in step d ≡ Some m → Leads fault m → Leads (inside step fault) d
leads_inside step None d m is leads = tt
leads_inside step (Some f) d m is leads = from_inside f.steps step d m is ∙ leads

pub leads_or : (first second : Option FaultData) (d : Data) → Leads first d → Leads second d → Leads (option_or first second) d
leads_or None second d a b = b
leads_or (Some f) second d a b = a

pub leads_whole : (wanted : WantedData) (d : Data) → Leads (Some (whole wanted d)) d
unfolding value_by
leads_whole wanted d = refl

pub leads_of : {A : Type 0} (kind : Data → Option A) (wanted : WantedData) (parts : Data → Option FaultData) (d : Data) →
    Leads (parts d) d → Leads (fault_of kind wanted parts d) d
leads_of {A} kind wanted parts d leads = by_kind (kind d) refl
  where
    by_kind : (x : Option A) → kind d ≡ x → Leads (fault_of kind wanted parts d) d
    by_kind (Some a) is = rw is tt
    by_kind None is = rw is (leads_or (parts d) (Some (whole wanted d)) d leads (leads_whole wanted d))

pub leads_member : (wanted : WantedData) (fault : Data → Option FaultData) (name : List ℕ) (d : Data) → ((m : Data) → Leads (fault m) m) →
    Leads (member_fault wanted fault name d) d
unfolding value_by
leads_member wanted fault name d leads = by_object (is_object d) refl
  where
    by_get : (found : Option Data) → get name d ≡ found → is_object d ≡ true → Leads (member_fault wanted fault name d) d
    by_get None is so = rw (so, is) is
    by_get (Some m) is so = rw (so, is) (leads_inside (key name) (fault m) d m is (leads m))

    by_object : (b : Bool) → is_object d ≡ b → Leads (member_fault wanted fault name d) d
    by_object true so = by_get (get name d) refl so
    by_object false so = rw so refl

present : (d : Option Data) (m : Data) → option_and_then unless_null d ≡ Some m → d ≡ Some m
present None m is = cc
present (Some null) m is = cc
present (Some (boolean b)) m is = is
present (Some (number n)) m is = is
present (Some (string s)) m is = is
present (Some (array ds)) m is = is
present (Some (object ms)) m is = is

pub leads_optional_member : (fault : Data → Option FaultData) (name : List ℕ) (d : Data) → ((m : Data) → Leads (fault m) m) →
    Leads (optional_member_fault fault name d) d
leads_optional_member fault name d leads = by_value (option_and_then unless_null (get name d)) refl
  where
    by_value : (found : Option Data) → option_and_then unless_null (get name d) ≡ found → Leads (optional_member_fault fault name d) d
    by_value None is = rw is tt
    by_value (Some m) is = rw is (leads_inside (key name) (fault m) d m (present (get name d) m is) (leads m))

pub leads_given_member : (fault : Data → Option FaultData) (name : List ℕ) (d : Data) → ((m : Data) → Leads (fault m) m) →
    Leads (given_member_fault fault name d) d
leads_given_member fault name d leads = by_get (get name d) refl
  where
    by_get : (found : Option Data) → get name d ≡ found → Leads (given_member_fault fault name d) d
    by_get None is = rw is tt
    by_get (Some m) is = rw is (leads_inside (key name) (fault m) d m is (leads m))

pub leads_not_allowed : (wanted : WantedData) (name : List ℕ) (d : Data) → Leads (not_allowed wanted name d) d
leads_not_allowed wanted name d = by_get (get name d) refl
  where
    by_get : (found : Option Data) → get name d ≡ found → Leads (not_allowed wanted name d) d
    by_get None is = rw is tt
    by_get (Some m) is = rw is (leads_inside (key name) (Some (whole wanted m)) d m is (leads_whole wanted m))

-- a kind whose values have no parts
pub leads_leaf : {A : Type 0} (kind : Data → Option A) (wanted : WantedData) (d : Data) → Leads (fault_of kind wanted no_parts d) d
leads_leaf kind wanted d = leads_of kind wanted no_parts d tt

pub leads_members : (fault : Data → Option FaultData) (d : Data) → Leads (fault d) d → Leads (members_fault fault d) d
leads_members fault d leads = by_test (is_object d)
  where
    by_test : (b : Bool) → Leads (if b then fault d else None) d
    by_test true = leads
    by_test false = tt

next : (n j : ℕ) → n + 1 + j ≡ n + suc j
next n j = omega (arith, suc-eq-add-one j)

pub leads_items : (fault : Data → Option FaultData) (d : Data) (before : ℕ) (ds : Items) → ((m : Data) → Leads (fault m) m) →
    ((j : ℕ) → at (before + j) d ≡ get_item j ds) → Leads (items_fault fault before ds) d
unfolding items_fault
leads_items fault d before no_items leads places = tt
leads_items fault d before (item m ds) leads places =
    leads_or (inside (index before) (fault m)) (items_fault fault (before + 1) ds) d
    (leads_inside (index before) (fault m) d m (ap (λ k. at k d) (sym (add-zero before)) ∙ places 0) (leads m))
    (leads_items fault d (before + 1) ds leads (λ j. ap (λ k. at k d) (next before j) ∙ places (suc j)))

pub leads_elements : (fault : Data → Option FaultData) (d : Data) → ((m : Data) → Leads (fault m) m) → Leads (elements_fault fault d) d
leads_elements fault null leads = tt
leads_elements fault (boolean b) leads = tt
leads_elements fault (number n) leads = tt
leads_elements fault (string s) leads = tt
leads_elements fault (array ds) leads = leads_items fault (array ds) 0 ds leads (λ j. ap (λ k. get_item k ds) (zero-add j))
leads_elements fault (object ms) leads = tt

leads_two : (first second : Data → Option FaultData) (ds : Items) → ((m : Data) → Leads (first m) m) → ((m : Data) → Leads (second m) m) →
    Leads (pair_fault first second ds) (array ds)
leads_two first second (item a (item b no_items)) one other = leads_or (inside (index 0) (first a)) (inside (index 1) (second b)) _
    (leads_inside (index 0) (first a) _ a refl (one a)) (leads_inside (index 1) (second b) _ b refl (other b))
leads_two first second no_items one other = tt
leads_two first second (item a no_items) one other = tt
leads_two first second (item a (item b (item c ds))) one other = tt

pub leads_pair : (first second : Data → Option FaultData) (d : Data) → ((m : Data) → Leads (first m) m) → ((m : Data) → Leads (second m) m) →
    Leads (option_and_then (pair_fault first second) (as_array d)) d
leads_pair first second null one other = tt
leads_pair first second (boolean b) one other = tt
leads_pair first second (number n) one other = tt
leads_pair first second (string s) one other = tt
leads_pair first second (array ds) one other = leads_two first second ds one other
leads_pair first second (object ms) one other = tt

-- ---- the value that is rejected

-- one of two tests fails
either : {A B C R : Type 0} (first : Result A R) (rest : Result B R) (make : A → B → C) (x : R) →
    (first >>= λ a. rest >>= λ b. Ok (make a b)) ≡ Err x → (first ≡ Err x) ⊎ (rest ≡ Err x)
either (Err y) rest make x e = inl cc
either (Ok a) (Err y) make x e = inr cc
either (Ok a) (Ok b) make x e = cc

-- the value of an index that is rejected
abbrev pub IsRejected : {A R : Type 0} → (ℕ → Data → Result A R) → ℕ → Items → R → Type 0
IsRejected tests i ds x = (j : ℕ) × (m : Data) × (get_item j ds ≡ Some m) × (tests (i + j) m ≡ Err x)

later : {A R : Type 0} (tests : ℕ → Data → Result A R) (i : ℕ) (d : Data) (ds : Items) (x : R) → IsRejected tests (i + 1) ds x →
    IsRejected tests i (item d ds) x
later tests i d ds x found = (suc found.0, found.1, found.2, ap (λ k. tests k found.1) (sym (next i found.0)) ∙ found.3)

-- of values that are tested one after another, one is rejected
pub numbered_error : {A R : Type 0} (tests : ℕ → Data → Result A R) (i : ℕ) (ds : Items) (x : R) → numbered tests i ds ≡ Err x →
    IsRejected tests i ds x
unfolding numbered
numbered_error tests i no_items x e = cc
numbered_error tests i (item d ds) x e = ⊎_elim
    (λ is. (0, d, refl, ap (λ k. tests k d) (add-zero i) ∙ is))
    (λ is. later tests i d ds x (numbered_error tests (i + 1) ds x is))
    (either (tests i d) (numbered tests (i + 1) ds) (λ a rest. a ∷ rest) x e)

-- one test after another fails by the first, or by the second
pub chain : {A B R : Type 0} (first : Result A R) (f : A → Result B R) (x : R) → (first >>= f) ≡ Err x →
    (first ≡ Err x) ⊎ ((a : A) × (first ≡ Ok a) × (f a ≡ Err x))
chain (Err y) f x e = inl cc
chain (Ok a) f x e = inr (a, refl, e)

pub rejected : {A R : Type 0} (refusal : R) (o : Option A) (x : R) → or_reject refusal o ≡ Err x → (o ≡ None) × (refusal ≡ x)
rejected refusal None x e = (refl, cc)
rejected refusal (Some a) x e = cc

pub accepted : {A R : Type 0} (refusal : R) (o : Option A) (a : A) → or_reject refusal o ≡ Ok a → o ≡ Some a
accepted refusal None a e = cc
accepted refusal (Some b) a e = cc

-- a member that is of a kind is there
pub is_there : {A : Type 0} (kind : Data → Option A) (name : List ℕ) (d : Data) (a : A) → member kind name d ≡ Some a →
    (m : Data) × (get name d ≡ Some m) × (kind m ≡ Some a)
is_there {A} kind name d a e = by_get (get name d) refl
  where
    by_get : (found : Option Data) → get name d ≡ found → (m : Data) × (get name d ≡ Some m) × (kind m ≡ Some a)
    by_get None is = absurd (never (sym e ∙ ap (option_and_then kind) is))
    by_get (Some m) is = (m, is, sym (ap (option_and_then kind) is) ∙ e)

-- ---- tests one after another

-- if the tests fail, what they reject the input with has a property
abbrev pub FailsWith : {A R : Type 0} → (R → Type 0) → Result A R → Type 0
FailsWith {R = R} P tests = (x : R) → tests ≡ Err x → P x

pub never_fails : {A R : Type 0} (P : R → Type 0) (a : A) → FailsWith {A = A} {R = R} P (Ok a)
never_fails P a x e = cc

pub one_then : {A B R : Type 0} (P : R → Type 0) (first : Result A R) (rest : A → Result B R) → FailsWith P first →
    ((a : A) → first ≡ Ok a → FailsWith P (rest a)) → FailsWith P (first >>= rest)
one_then P (Err y) rest fails later x e = fails x cc
one_then P (Ok a) rest fails later x e = later a refl x e

pub fails_or_reject : {A R : Type 0} (P : R → Type 0) (refusal : R) (o : Option A) → (o ≡ None → P refusal) → FailsWith P (or_reject refusal o)
fails_or_reject P refusal None holds x e = subst P (rejected refusal None x e).1 (holds refl)
fails_or_reject P refusal (Some a) holds x e = cc

pub fails_required : {A R : Type 0} (P : R → Type 0) (kind : Data → Option A) (wanted : WantedData) (parts : Data → Option FaultData)
    (name : List ℕ) (refusal : R) (d : Data) → (IsSome (member_fault wanted (fault_of kind wanted parts) name d) → P refusal) →
    FailsWith P (required kind name refusal d)
fails_required P kind wanted parts name refusal d holds =
    fails_or_reject P refusal (member kind name d) (λ e. holds (bad_member kind wanted parts name d e))

pub fails_optional : {A R : Type 0} (P : R → Type 0) (kind : Data → Option A) (wanted : WantedData) (parts : Data → Option FaultData)
    (name : List ℕ) (refusal : R) (d : Data) → (IsSome (optional_member_fault (fault_of kind wanted parts) name d) → P refusal) →
    FailsWith P (optional kind name refusal d)
fails_optional P kind wanted parts name refusal d holds =
    fails_or_reject P refusal (optional_member kind name d) (λ e. holds (bad_optional_member kind wanted parts name d e))

pub fails_given : {A R : Type 0} (P : R → Type 0) (kind : Data → Option A) (wanted : WantedData) (parts : Data → Option FaultData)
    (name : List ℕ) (refusal : R) (d : Data) → (IsSome (given_member_fault (fault_of kind wanted parts) name d) → P refusal) →
    FailsWith P (given kind name refusal d)
fails_given P kind wanted parts name refusal d holds =
    fails_or_reject P refusal (given_member kind name d) (λ e. holds (bad_given_member kind wanted parts name d e))

pub leads_inside_at : (name : List ℕ) (i : ℕ) (fault : Data → Option FaultData) (d : Data) → ((m : Data) → Leads (fault m) m) →
    Leads (inside_at name i fault d) d
leads_inside_at name i fault d leads = by_get (get name d) refl
  where
    by_at : (all : Data) (found : Option Data) → get name d ≡ Some all → at i all ≡ found → Leads (inside_at name i fault d) d
    by_at all None is so = rw (is, so) tt
    by_at all (Some m) is so = rw (is, so)
        (leads_inside (key name) (inside (index i) (fault m)) d all is (leads_inside (index i) (fault m) all m so (leads m)))

    by_get : (found : Option Data) → get name d ≡ found → Leads (inside_at name i fault d) d
    by_get None is = rw is tt
    by_get (Some all) is = by_at all (at i all) is refl

-- an optional member that has a value is there
pub optional_there : {A : Type 0} (kind : Data → Option A) (name : List ℕ) (d : Data) (a : A) → optional_member kind name d ≡ Some (Some a) →
    (m : Data) × (get name d ≡ Some m) × (kind m ≡ Some a)
optional_there {A} kind name d a e = by_value (option_and_then unless_null (get name d)) refl
  where
    of_kind : (m : Data) (x : Option A) → option_map Some x ≡ Some (Some a) → x ≡ Some a
    of_kind m None e = cc
    of_kind m (Some b) e = cc

    by_value : (found : Option Data) → option_and_then unless_null (get name d) ≡ found →
        (m : Data) × (get name d ≡ Some m) × (kind m ≡ Some a)
    by_value None is = absurd (other (sym (ap (if_any kind) is) ∙ e))
    by_value (Some m) is = (m, present (get name d) m is, of_kind m (kind m) (sym (ap (if_any kind) is) ∙ e))

-- counted values are the same values
pub same_counted : (least most : ℕ) (all ds : Items) → if_counted least most all ≡ Some ds → all ≡ ds
same_counted least most all ds e = by_count (nat_le least (items_len all) && nat_le (items_len all) most) e
  where
    by_count : (b : Bool) → (if b then Some all else None) ≡ Some ds → all ≡ ds
    by_count true e = cc
    by_count false e = cc

-- and so are those that are all objects
pub same_items : (least most : ℕ) (all ds : Items) → option_and_then if_objects (if_counted least most all) ≡ Some ds → all ≡ ds
same_items least most all ds e = by_counted (if_counted least most all) refl
  where
    by_objects : (b : Bool) (those : Items) → (if b then Some those else None) ≡ Some ds → those ≡ ds
    by_objects true those e = cc
    by_objects false those e = cc

    by_counted : (counted : Option Items) → if_counted least most all ≡ counted → all ≡ ds
    by_counted (Some those) is =
        same_counted least most all those is ∙ by_objects (are_objects those) those (sym (ap (option_and_then if_objects) is) ∙ e)
    by_counted None is = absurd (never (sym e ∙ ap (option_and_then if_objects) is))

-- an object, and the values of an array of them
pub same_object : (d o : Data) → object_of d ≡ Some o → d ≡ o
same_object d o e = by_test (is_object d) e
  where
    by_test : (b : Bool) → (if b then Some d else None) ≡ Some o → d ≡ o
    by_test true e = cc
    by_test false e = cc

pub counted_values : (least most : ℕ) (d : Data) (ds : Items) → elements_within least most d ≡ Some ds → as_array d ≡ Some ds
unfolding elements_within
counted_values least most null ds e = cc
counted_values least most (boolean b) ds e = cc
counted_values least most (number n) ds e = cc
counted_values least most (string s) ds e = cc
counted_values least most (array all) ds e = ap Some (same_counted least most all ds e)
counted_values least most (object ms) ds e = cc

pub object_values : (least most : ℕ) (d : Data) (ds : Items) → objects_within least most d ≡ Some ds → as_array d ≡ Some ds
unfolding elements_within
object_values least most null ds e = cc
object_values least most (boolean b) ds e = cc
object_values least most (number n) ds e = cc
object_values least most (string s) ds e = cc
object_values least most (array all) ds e = ap Some (same_items least most all ds e)
object_values least most (object ms) ds e = cc

-- the value of an index in an array of at least and at most this many
pub counted_at : (least most : ℕ) (d : Data) (ds : Items) (i : ℕ) → elements_within least most d ≡ Some ds → at i d ≡ get_item i ds
unfolding elements_within
counted_at least most null ds i e = cc
counted_at least most (boolean b) ds i e = cc
counted_at least most (number n) ds i e = cc
counted_at least most (string s) ds i e = cc
counted_at least most (array all) ds i e = ap (get_item i) (same_counted least most all ds e)
counted_at least most (object ms) ds i e = cc

pub object_at : (least most : ℕ) (d : Data) (ds : Items) (i : ℕ) → objects_within least most d ≡ Some ds → at i d ≡ get_item i ds
unfolding elements_within
object_at least most null ds i e = cc
object_at least most (boolean b) ds i e = cc
object_at least most (number n) ds i e = cc
object_at least most (string s) ds i e = cc
object_at least most (array all) ds i e = ap (get_item i) (same_items least most all ds e)
object_at least most (object ms) ds i e = cc

-- the value of an index in a member that has counted values
pub item_at : (least most : ℕ) (name : List ℕ) (i : ℕ) (d m : Data) (ds : Items) → member (elements_within least most) name d ≡ Some ds →
    get_item i ds ≡ Some m → value_at name i d ≡ Some m
item_at least most name i d m ds is found =
    let there = is_there (elements_within least most) name d ds is in
    ap (option_and_then (at i)) there.1 ∙ counted_at least most there.0 ds i there.2 ∙ found

-- the member that decides a column width
number_leads : (m : Data) → Leads (short_fault m) m
number_leads = leads_leaf u16_of (faults.number 0 65535)

ratio_leads : (m : Data) → Leads (ratio_fault m) m
ratio_leads m = leads_of (pair_of u32_of u32_of) two_values (λ d. option_and_then (pair_fault long_fault long_fault) (as_array d)) m
    (leads_pair long_fault long_fault m long long)
  where
    long : (n : Data) → Leads (long_fault n) n
    long = leads_leaf u32_of (faults.number 0 4294967295)

pub constraint_leads : (d : Data) → Leads (constraint_fault d) d
constraint_leads d =
    leads_or _ _ d (leads_or _ _ d (leads_or _ _ d (leads_or _ _ d (leads_or _ _ d (short (codes "length")) (short (codes "min")))
    (short (codes "max"))) (short (codes "percentage"))) (short (codes "fill"))) (leads_given_member ratio_fault (codes "ratio") d ratio_leads)
  where
    short : (name : List ℕ) → Leads (given_member_fault short_fault name d) d
    short name = leads_given_member short_fault name d number_leads
