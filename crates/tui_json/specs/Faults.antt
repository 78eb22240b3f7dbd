-- Why a value is not of its kind: where in it a value is that is not, what was wanted there, and what is there.
use Rattle.std.specs.Prelude.{◌≡◌, ℕ, ◌+◌, List, [], ◌∷◌, ◌++◌, Option, Some, None, IfSome, map, option_map, option_and_then, codes, if◌then◌else◌}
use Rattle.std.specs.Option.{option_or}
use Rattle.serde_json.specs.Data.{Data, Items, no_items, item}
use Rattle.serde_json.specs.Find.{as_array, at, get}
use Rattle.serde_json.specs.View.{view}
use Rattle.tui_json.specs.Members.{unless_null}
use Rattle.tui_json.specs.Objects.{is_object}
use Rattle.tui_json.specs.declared.fault.Fault.{Fault}
use Rattle.tui_json.specs.declared.fault.Step.{Step}
use Rattle.tui_json.specs.declared.fault.Step.TheVariants as steps
use Rattle.tui_json.specs.declared.wanted.Wanted.{Wanted}
use Rattle.tui_json.specs.declared.wanted.Wanted.TheVariants as wants

-- ---- as plain data

-- what a value should be, in words or by its bounds
pub data WantedData : Type 0 where
  words : List ℕ → WantedData
  number : ℕ → ℕ → WantedData
  text : ℕ → ℕ → WantedData
  values : ℕ → ℕ → List ℕ → WantedData

abbrev pub wanted_data : Wanted → WantedData
wanted_data (wants.Words w) = words w.now
wanted_data (wants.Number least most) = number least most
wanted_data (wants.Text least most) = text least most
wanted_data (wants.Values least most of) = values least most of.now

-- a step into a value: to the member of a name, or to the value of an index
pub data StepData : Type 0 where
  key : List ℕ → StepData
  index : ℕ → StepData

abbrev pub step_data : Step → StepData
step_data (steps.Key name) = key name.now
step_data (steps.Index i) = index i

-- the steps to the place, the last one first; what was wanted there; and what is there, if anything is
pub record FaultData : Type 0 where
  pub steps : List StepData
  pub wanted : WantedData
  pub found : Option Data

abbrev pub fault_data : Fault → FaultData
fault_data fault = record {
  steps = map step_data fault.steps.items;
  wanted = wanted_data fault.wanted;
  found = option_map (λ v. view v.now) fault.found;
}

-- ---- faults of values

-- a value that is not what is wanted, and one that is not there
abbrev pub whole : WantedData → Data → FaultData
whole wanted d = record { steps = []; wanted = wanted; found = Some d }

abbrev pub missing : WantedData → FaultData
missing wanted = record { steps = []; wanted = wanted; found = None }

-- a fault of a part, one step away
abbrev pub inside : StepData → Option FaultData → Option FaultData
inside step = option_map {T = FaultData} (λ fault. record fault { steps = fault.steps ++ step ∷ [] })

-- The fault of a value: none if it is of the kind. Otherwise the first fault of a part of it, if it has such a part, or
-- else the value itself.
abbrev pub fault_of : {A : Type 0} → (Data → Option A) → WantedData → (Data → Option FaultData) → Data → Option FaultData
fault_of {A = A} kind wanted parts d = unless (kind d)
  where
    unless : Option A → Option FaultData
    unless (Some value) = None
    unless None = option_or (parts d) (Some (whole wanted d))

-- the first of two faults that there is
infixl 6 ◌or◌
abbrev pub ◌or◌ : Option FaultData → Option FaultData → Option FaultData
first or second = option_or first second

-- no part has a fault of its own
abbrev pub no_parts : Data → Option FaultData
no_parts d = None

-- ---- faults of parts

abbrev pub an_object : WantedData
an_object = words (codes "an object")

-- of the member of this name, which has to be there, of a value that has to be an object
abbrev pub member_fault : WantedData → (Data → Option FaultData) → List ℕ → Data → Option FaultData
member_fault wanted fault name d = if is_object d then inside (key name) (found (get name d)) else Some (whole an_object d)
  where
    found : Option Data → Option FaultData
    found None = Some (missing wanted)
    found (Some m) = fault m

-- of the member of this name, which may be absent or null
abbrev pub optional_member_fault : (Data → Option FaultData) → List ℕ → Data → Option FaultData
optional_member_fault fault name d = inside (key name) (option_and_then fault (option_and_then unless_null (get name d)))

-- of the member of this name, which may be absent; null is a value
abbrev pub given_member_fault : (Data → Option FaultData) → List ℕ → Data → Option FaultData
given_member_fault fault name d = inside (key name) (option_and_then fault (get name d))

-- of a member of this name that is of its kind, and that is not allowed
abbrev pub not_allowed : WantedData → List ℕ → Data → Option FaultData
not_allowed wanted name d = inside (key name) (option_map (whole wanted) (get name d))

-- of an object; another value has no members
abbrev pub members_fault : (Data → Option FaultData) → Data → Option FaultData
members_fault fault d = if is_object d then fault d else None

-- of the first of some values that has one; the first has the index `i`
unfoldable pub items_fault : (Data → Option FaultData) → ℕ → Items → Option FaultData
items_fault fault i no_items = None
items_fault fault i (item d ds) = option_or (inside (index i) (fault d)) (items_fault fault (i + 1) ds)

-- of the values of an array
abbrev pub elements_fault : (Data → Option FaultData) → Data → Option FaultData
elements_fault fault d = option_and_then (items_fault fault 0) (as_array d)

abbrev pub two_values : WantedData
two_values = words (codes "an array of two values")

-- of the two values of an array
abbrev pub pair_fault : (Data → Option FaultData) → (Data → Option FaultData) → Items → Option FaultData
pair_fault first second (item a (item b no_items)) = option_or (inside (index 0) (first a)) (inside (index 1) (second b))
pair_fault first second ds = None

-- the value of an index in the array that is the member of this name
abbrev pub value_at : List ℕ → ℕ → Data → Option Data
value_at name i d = option_and_then (at i) (get name d)

-- a fault of that value
abbrev pub inside_at : List ℕ → ℕ → (Data → Option FaultData) → Data → Option FaultData
inside_at name i fault d = inside (key name) (inside (index i) (option_and_then fault (value_at name i d)))

-- ---- where a fault is

-- one step into a value
abbrev pub step_in : StepData → Data → Option Data
step_in (key name) d = get name d
step_in (index i) d = at i d

-- what the steps lead to, the last one first
unfoldable pub value_by : List StepData → Data → Option Data
value_by [] d = Some d
value_by (step ∷ before) d = option_and_then (step_in step) (value_by before d)

-- the steps of a fault lead to what it says is there; a missing value is not there
abbrev pub Leads : Option FaultData → Data → Type 0
Leads fault d = IfSome fault (λ f. value_by f.steps d ≡ f.found)
