-- Finding the fault of the first faulty value of an array, one after another.
use Rattle.std.proofs.Common.{◌≡◌, ℕ, ◌+◌, ◌<◌, ◌≤◌, List, [], ◌∷◌, length, get_or, drop, IfOk, Option, Some, None, option_map, Result, Ok, Err, refl, sym, ap, ◌∙◌}
use Rattle.std.proofs.lemmas.List.{drop_all}
use Rattle.serde_json.specs.Data.{Data}
use Rattle.serde_json.specs.View.{view, items_view}
use Rattle.serde_json.specs.declared.value.Value.{Value}
use Rattle.tui_json.proofs.Arrays.{items_view-drop}
use Rattle.tui_json.specs.Faults.{FaultData, fault_data, index, inside, items_fault, pair_fault}
use Rattle.tui_json.specs.declared.fault.Fault.{Fault}

-- a value without a fault
pub faults_more : (fault : Data → Option FaultData) (i : ℕ) (vs : List Value) (v : Value) (all : Option FaultData) → i < length vs → v ≡ get_or vs i v
    → fault (view v) ≡ None → items_fault fault i (items_view (drop i vs)) ≡ all
    → items_fault fault (i + 1) (items_view (drop (i + 1) vs)) ≡ all
unfolding items_fault
faults_more fault i vs v all lt is none so_far =
    let here : items_fault fault i (items_view (drop i vs)) ≡ items_fault fault (i + 1) (items_view (drop (i + 1) vs)) =
    ap (items_fault fault i) (items_view-drop vs i v lt is) ∙ rw none refl in
    sym here ∙ so_far

-- the first value with one
pub fault_first : (fault : Data → Option FaultData) (i : ℕ) (vs : List Value) (v : Value) (found : FaultData) (all : Option FaultData) → i < length vs
    → v ≡ get_or vs i v → fault (view v) ≡ Some found → items_fault fault i (items_view (drop i vs)) ≡ all
    → inside (index i) (Some found) ≡ all
unfolding items_fault
fault_first fault i vs v found all lt is some so_far =
    let here : items_fault fault i (items_view (drop i vs)) ≡ inside (index i) (Some found) =
    ap (items_fault fault i) (items_view-drop vs i v lt is) ∙ rw some refl in
    sym here ∙ so_far

-- no value has one
pub faults_end : (fault : Data → Option FaultData) (i : ℕ) (vs : List Value) (all : Option FaultData) → length vs ≤ i
    → items_fault fault i (items_view (drop i vs)) ≡ all → all ≡ None
unfolding items_fault
faults_end fault i vs all le so_far = sym so_far ∙ rw (drop_all i vs le) refl

-- an equal fault in its place
pub same_fault : {E : Type 0} (r : Result (Option Fault) E) (x y : Option FaultData) → x ≡ y → IfOk r (λ o. option_map fault_data o ≡ x)
    → IfOk r (λ o. option_map fault_data o ≡ y)
same_fault (Ok o) x y e is = is ∙ e
same_fault (Err error) x y e is = tt

-- arrays of another length
pub pair_fault_other : (first second : Data → Option FaultData) (vs : List Value) → (length vs ≡ 2 → ⊥) → pair_fault first second (items_view vs) ≡ None
pair_fault_other first second [] h = refl
pair_fault_other first second (a ∷ []) h = refl
pair_fault_other first second (a ∷ b ∷ []) h = absurd (h refl)
pair_fault_other first second (a ∷ b ∷ c ∷ vs) h = refl
