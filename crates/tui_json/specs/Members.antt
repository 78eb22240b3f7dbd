-- What is inside a value: the members of an object and the values of an array. And lookup tables of names.
use Rattle.std.specs.Prelude.{ℕ, List, [], ◌∷◌, ◌&&◌, nat_le, if◌then◌else◌, Option, Some, None, option_map, option_and_then}
use Rattle.std.specs.Str.{bytes_eq}
use Rattle.serde_json.specs.Data.{Data, null, boolean, number, string, array, object, Items, no_items, item}
use Rattle.serde_json.specs.Events.{items_len}
use Rattle.serde_json.specs.Find.{get, as_array}

infixl 10 ◌>>=◌
abbrev pub ◌>>=◌ : {A B : Type 0} → Option A → (A → Option B) → Option B
o >>= f = option_and_then f o

-- the value, unless it is null
abbrev pub unless_null : Data → Option Data
unless_null null = None
unless_null (boolean b) = Some (boolean b)
unless_null (number n) = Some (number n)
unless_null (string s) = Some (string s)
unless_null (array ds) = Some (array ds)
unless_null (object ms) = Some (object ms)

-- None if there is no value; otherwise the value, which has to be of the kind
abbrev pub if_any : {A : Type 0} → (Data → Option A) → Option Data → Option (Option A)
if_any kind None = Some None
if_any kind (Some d) = option_map Some (kind d)

-- the member of this name, which has to be there
abbrev pub member : {A : Type 0} → (Data → Option A) → List ℕ → Data → Option A
member kind name d = option_and_then kind (get name d)

-- the member of this name, which may be absent or null
abbrev pub optional_member : {A : Type 0} → (Data → Option A) → List ℕ → Data → Option (Option A)
optional_member kind name d = if_any kind (option_and_then unless_null (get name d))

-- null, or a value of a kind
abbrev pub or_null : {A : Type 0} → (Data → Option A) → Data → Option (Option A)
or_null kind d = if_any kind (unless_null d)

-- the member of this name, which may be absent; null is a value
abbrev pub given_member : {A : Type 0} → (Data → Option A) → List ℕ → Data → Option (Option A)
given_member kind name d = if_any kind (get name d)

-- each value of an array
unfoldable pub each_of : {A : Type 0} → (Data → Option A) → Items → Option (List A)
each_of kind no_items = Some []
each_of kind (item d ds) = do
  x ← kind d
  xs ← each_of kind ds
  Some (x ∷ xs)

-- an array of values of one kind
unfoldable pub list_of : {A : Type 0} → (Data → Option A) → Data → Option (List A)
list_of kind d = option_and_then (each_of kind) (as_array d)

-- the values, if there are at least `least` and at most `most`
abbrev pub if_counted : ℕ → ℕ → Items → Option Items
if_counted least most ds = if nat_le least (items_len ds) && nat_le (items_len ds) most then Some ds else None

-- the values of an array of at least `least` and at most `most`
unfoldable pub elements_within : ℕ → ℕ → Data → Option Items
elements_within least most d = option_and_then (if_counted least most) (as_array d)

-- two values, each of its kind
abbrev pub pair_in : {A B : Type 0} → (Data → Option A) → (Data → Option B) → Items → Option (A × B)
pair_in first second (item a (item b no_items)) = do
  x ← first a
  y ← second b
  Some (x, y)
pair_in first second _ = None

-- an array of two values
unfoldable pub pair_of : {A B : Type 0} → (Data → Option A) → (Data → Option B) → Data → Option (A × B)
pair_of first second d = option_and_then (pair_in first second) (as_array d)

-- the entry of a table with this name
abbrev pub named : {A : Type 0} → List (List ℕ × A) → List ℕ → Option A
named [] s = None
named (p ∷ ps) s = if bytes_eq s p.0 then Some p.1 else named ps s
