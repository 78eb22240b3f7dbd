-- Reading the values of an array one after another.
use Rattle.std.proofs.Common.{◌≡◌, ℕ, ◌+◌, ◌<◌, ◌≤◌, List, [], ◌∷◌, ◌++◌, length, get_or, drop, Option, Some, None, Err, refl, sym, ap, ◌∙◌, append_assoc, add-one, option_map, option_and_then, cond, leb, ◌&&◌}
use Rattle.std.proofs.lemmas.List.{append-nil, drop_all}
use Rattle.std.proofs.Math.Seq.{drop-cons}
use Rattle.serde_json.specs.Data.{Data, item}
use Rattle.serde_json.specs.View.{view, items_view}
use Rattle.serde_json.specs.declared.value.Value.{Value}
use Rattle.serde_json.proofs.Views.{items_len-items_view}
use Rattle.tui_json.specs.declared.kind.KindError.{KindError}
use Rattle.tui_json.specs.declared.kind.KindError.TheVariants as errors
use Rattle.tui_json.specs.Kinds.{Reads}
use Rattle.tui_json.specs.Members.{each_of, if_counted, pair_in}

pub items_view-drop : (vs : List Value) (i : ℕ) (v : Value) → i < length vs → v ≡ get_or vs i v
    → items_view (drop i vs) ≡ item (view v) (items_view (drop (i + 1) vs))
items_view-drop vs i v lt e =
    let here : drop i vs ≡ v ∷ drop (i + 1) vs = rw (add-one, drop-cons vs i v lt, ← e) refl in
    ap items_view here

-- the values that were read before, followed by those that are still to be read
abbrev pub prepended : {A : Type 0} → List A → Option (List A) → Option (List A)
prepended before rest = option_map (λ xs. before ++ xs) rest

prepended-one : {A : Type 0} (before : List A) (x : A) (rest : Option (List A))
    → prepended before (option_and_then (λ xs. Some (x ∷ xs)) rest) ≡ prepended (before ++ x ∷ []) rest
prepended-one {A} before x (Some xs) = ap (λ (ys : List A). Some ys) (simp append_assoc)
prepended-one before x None = refl

pub each_more : {A : Type 0} (kind : Data → Option A) (before : List A) (i : ℕ) (vs : List Value) (v : Value) (x : A)
    → i < length vs → v ≡ get_or vs i v → kind (view v) ≡ Some x
    → prepended before (each_of kind (items_view (drop i vs))) ≡ prepended (before ++ x ∷ []) (each_of kind (items_view (drop (i + 1) vs)))
unfolding each_of
each_more kind before i vs v x lt e h = rw (items_view-drop vs i v lt e, h) (prepended-one before x (each_of kind (items_view (drop (i + 1) vs))))

pub each_none : {A : Type 0} (kind : Data → Option A) (before : List A) (i : ℕ) (vs : List Value) (v : Value)
    → i < length vs → v ≡ get_or vs i v → kind (view v) ≡ None → prepended before (each_of kind (items_view (drop i vs))) ≡ None
unfolding each_of
each_none kind before i vs v lt e h = rw (items_view-drop vs i v lt e, h) refl

-- an error for one value is the error for the whole array
pub each_err : {A X Y : Type 0} (e : KindError) (one : X → A) (all : Y → List A) (kind : Data → Option A) (before : List A) (i : ℕ) (vs : List Value) (v : Value) (total : Option (List A))
    → i < length vs → v ≡ get_or vs i v → Reads one (Err e) (kind (view v))
    → prepended before (each_of kind (items_view (drop i vs))) ≡ total → Reads all (Err e) total
each_err errors.NoMemory one all kind before i vs v total lt is h so_far = tt
each_err errors.WrongKind one all kind before i vs v total lt is h so_far = sym so_far ∙ each_none kind before i vs v lt is h

pub each_end : {A : Type 0} (kind : Data → Option A) (before : List A) (i : ℕ) (vs : List Value)
    → length vs ≤ i → prepended before (each_of kind (items_view (drop i vs))) ≡ Some before
unfolding each_of
each_end {A} kind before i vs le = rw (drop_all i vs le) (ap (λ (xs : List A). Some xs) (append-nil before))

-- arrays of another length
pub pair_other : {A B : Type 0} (first : Data → Option A) (second : Data → Option B) (vs : List Value)
    → (length vs ≡ 2 → ⊥) → pair_in first second (items_view vs) ≡ None
pair_other first second [] h = refl
pair_other first second (a ∷ []) h = refl
pair_other first second (a ∷ b ∷ []) h = absurd (h refl)
pair_other first second (a ∷ b ∷ c ∷ vs) h = refl

pub counted : (least most : ℕ) (vs : List Value) →
    if_counted least most (items_view vs) ≡ cond (leb least (length vs) && leb (length vs) most) (Some (items_view vs)) None
counted least most vs = rw (items_len-items_view vs)
