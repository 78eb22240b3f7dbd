-- A store with one more date.
use Rattle.std.proofs.Common.{◌≡◌, Bool, true, false, List, [], ◌∷◌, map, Option, Some, ℤ, refl, ap, rules, tests}
use Rattle.std.specs.Prelude.{cond}
use Rattle.std.specs.BTreeMap.{BTreeMap, get_by, insert_entry, is_at}
use Rattle.std.specs.Map.{lookup}
use Rattle.std.specs.Ordering.{int_cmp, int_eq, match_ordering}
use Rattle.std.specs.declared.cmp.Ordering.{Ordering}
use Rattle.std.specs.declared.cmp.Ordering.TheVariants.{Less, Equal, Greater}
use Rattle.jiff_core.specs.Date.{epoch_day}
use Rattle.jiff_core.specs.declared.civil.date.Date.{Date}
use Rattle.tui_calendar.specs.CalendarEventStore.{day_number, style_among}
use Rattle.tui_calendar.specs.Month.{DateData, date_data}
use Rattle.tui_cells.specs.declared.style.Style.{Style}

one_day : (x y : ℤ) → int_cmp x y ≡ Equal → x ≡ y
one_day x y e = search (rules, tests)

apart : (n x y : ℤ) → int_cmp x y ≡ Greater → int_eq n x ≡ true → int_eq n y ≡ false
apart n x y e f = search (rules, tests)

swapped : {T : Type 0} (a b : Bool) (x v rest found : T) → (a ≡ true → b ≡ false) → found ≡ cond a v rest →
    cond b x found ≡ cond a v (cond b x rest)
swapped true true x v rest found f e = absurd (search (rules, tests))
swapped true false x v rest found f e = e
swapped false true x v rest found f e = refl
swapped false false x v rest found f e = e

replaced : {T : Type 0} (a : Bool) (v x rest : T) → cond a v rest ≡ cond a v (cond a x rest)
replaced true v x rest = refl
replaced false v x rest = refl

-- what a lookup by number finds
abbrev found_at : {K X : Type 0} → (K → ℤ) → ℤ → List (K × X) → Option X
found_at number n es = lookup (is_at (λ key. int_cmp n (number key))) es

placed : {K X : Type 0} (number : K → ℤ) (n : ℤ) (e : K × X) (es with_it : List (K × X)) (k : K) (v : X) (o : Ordering) → int_cmp (number k) (number e.0) ≡ o →
    found_at number n with_it ≡ cond (int_eq n (number k)) (Some v) (found_at number n es) →
    found_at number n (match_ordering o ((k, v) ∷ e ∷ es) ((e.0, v) ∷ es) (e ∷ with_it)) ≡ cond (int_eq n (number k)) (Some v) (found_at number n (e ∷ es))
placed number n e es with_it k v Less f h = refl
placed number n e es with_it k v Equal f h =
    let same = one_day (number k) (number e.0) f in
    rw same (replaced (int_eq n (number e.0)) (Some v) (Some e.1) (found_at number n es))
placed number n e es with_it k v Greater f h =
    swapped (int_eq n (number k)) (int_eq n (number e.0)) (Some e.1) (Some v) (found_at number n es) (found_at number n with_it) (apart n (number k) (number e.0) f) h

-- entries in the order of their numbers, with one more
pub inserted : {K X : Type 0} (number : K → ℤ) (n : ℤ) (es : List (K × X)) (k : K) (v : X) →
    found_at number n (insert_entry (λ a b. int_cmp (number a) (number b)) es k v) ≡ cond (int_eq n (number k)) (Some v) (found_at number n es)
inserted number n [] k v = refl
inserted number n (e ∷ es) k v = placed number n e es _ k v (int_cmp (number k) (number e.0)) refl (inserted number n es k v)

-- entries with their keys mapped
abbrev pub seen_as : {K L X : Type 0} → (K → L) → List (K × X) → List (L × X)
seen_as f = map (λ e. (f e.0, e.1))

placed_as : {K L X : Type 0} (f : K → L) (o : Ordering) (k : K) (v : X) (e : K × X) (es with_it : List (K × X)) (seen : List (L × X)) → seen_as f with_it ≡ seen →
    seen_as f (match_ordering o ((k, v) ∷ e ∷ es) ((e.0, v) ∷ es) (e ∷ with_it))
    ≡ match_ordering o ((f k, v) ∷ (f e.0, e.1) ∷ seen_as f es) ((f e.0, v) ∷ seen_as f es) ((f e.0, e.1) ∷ seen)
placed_as f Less k v e es with_it seen h = refl
placed_as f Equal k v e es with_it seen h = refl
placed_as f Greater k v e es with_it seen h = ap (λ l. (f e.0, e.1) ∷ l) h

-- one more entry, by an order of the mapped keys
pub inserted_as : {K L X : Type 0} (f : K → L) (order : L → L → Ordering) (es : List (K × X)) (k : K) (v : X) →
    seen_as f (insert_entry (λ a b. order (f a) (f b)) es k v) ≡ insert_entry order (seen_as f es) (f k) v
inserted_as f order [] k v = refl
inserted_as f order (e ∷ es) k v = placed_as f (order (f k) (f e.0)) k v e es _ _ (inserted_as f order es k v)

found_as : {K L X : Type 0} (f : K → L) (b : Bool) (e : K × X) (rest : Option X) (seen : Option X) → rest ≡ seen → cond b (Some e.1) rest ≡ cond b (Some e.1) seen
found_as f true e rest seen h = refl
found_as f false e rest seen h = h

looked_up_as : {K L X : Type 0} (f : K → L) (test : L → Bool) (es : List (K × X)) → lookup (λ k. test (f k)) es ≡ lookup test (seen_as f es)
looked_up_as f test [] = refl
looked_up_as f test (e ∷ es) = found_as f (test (f e.0)) e _ _ (looked_up_as f test es)

-- the entry of a date
pub among : (styles : BTreeMap Date Style) (d : DateData) →
    get_by (λ key. int_cmp (day_number d) (epoch_day key)) styles ≡ style_among (map (λ e. (date_data e.0, e.1)) styles.entries) d
among styles d = looked_up_as date_data (is_at (λ key. int_cmp (day_number d) (day_number key))) styles.entries
