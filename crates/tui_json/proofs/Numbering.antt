-- Testing the values of an array one after another, each with its number.
use Rattle.std.proofs.Common.{◌≡◌, ℕ, ◌+◌, ◌<◌, ◌≤◌, List, [], ◌∷◌, ◌++◌, length, get_or, drop, Option, Some, None, Result, Ok, Err, refl, sym, ap, ◌∙◌, append_assoc}
use Rattle.std.proofs.lemmas.List.{append-nil, drop_all}
use Rattle.serde_json.specs.Data.{Data}
use Rattle.serde_json.specs.View.{view, items_view}
use Rattle.serde_json.specs.declared.value.Value.{Value}
use Rattle.tui_json.specs.Refusals.{◌>>=◌, Rejects, numbered}
use Rattle.tui_json.proofs.Arrays.{items_view-drop}

-- the values that were read before, followed by those that are still to be read
abbrev pub prepended : {A R : Type 0} → List A → Result (List A) R → Result (List A) R
prepended before rest = rest >>= λ xs. Ok (before ++ xs)

prepended-one : {A R : Type 0} (before : List A) (x : A) (rest : Result (List A) R) → prepended before (rest >>= λ xs. Ok (x ∷ xs)) ≡ prepended (before ++ x ∷ []) rest
prepended-one {A} {R} before x (Ok xs) = ap (λ (ys : List A). Ok ys) (simp append_assoc)
prepended-one before x (Err e) = refl

pub numbered_more : {A R : Type 0} (tests : ℕ → Data → Result A R) (before : List A) (i : ℕ) (vs : List Value) (v : Value) (x : A)
    → i < length vs → v ≡ get_or vs i v → tests i (view v) ≡ Ok x
    → prepended before (numbered tests i (items_view (drop i vs))) ≡ prepended (before ++ x ∷ []) (numbered tests (i + 1) (items_view (drop (i + 1) vs)))
unfolding numbered
numbered_more tests before i vs v x lt is h =
    ap (λ ds. prepended before (numbered tests i ds)) (items_view-drop vs i v lt is)
    ∙ rw h (prepended-one before x (numbered tests (i + 1) (items_view (drop (i + 1) vs))))

pub numbered_err : {A R : Type 0} (tests : ℕ → Data → Result A R) (refusal : Option R) (before : List A) (i : ℕ) (vs : List Value) (v : Value)
    (total : Result (List A) R) → i < length vs → v ≡ get_or vs i v → Rejects refusal (tests i (view v))
    → prepended before (numbered tests i (items_view (drop i vs))) ≡ total → Rejects refusal total
unfolding numbered
numbered_err tests None before i vs v total lt is h so_far = tt
numbered_err tests (Some refusal) before i vs v total lt is h so_far =
    let here : prepended before (numbered tests i (items_view (drop i vs))) ≡ Err refusal =
    ap (λ ds. prepended before (numbered tests i ds)) (items_view-drop vs i v lt is) ∙ rw h refl in
    sym so_far ∙ here

pub numbered_end : {A R : Type 0} (tests : ℕ → Data → Result A R) (before : List A) (i : ℕ) (vs : List Value) → length vs ≤ i
    → prepended before (numbered tests i (items_view (drop i vs))) ≡ Ok before
unfolding numbered
numbered_end {A} tests before i vs le = rw (drop_all i vs le) (ap (λ (xs : List A). Ok xs) (append-nil before))
