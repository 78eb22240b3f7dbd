-- The element at an index of a list of fields.
use Rattle.std.proofs.Common.{◌≡◌, ℕ, ◌<◌, ◌≤◌, zero, suc, List, [], ◌∷◌, length, get_or, map, refl, sym, ap, ◌∙◌, arith}
use Rattle.std.proofs.Math.ListN.{set}
use Rattle.std.specs.List.{slice_get}
use Rattle.std.specs.Option.{option_map_or}
use Rattle.tui_form_lib.specs.Field.{FieldData, field_data}
use Rattle.tui_form_lib.specs.Steps.{changed_at}
use Rattle.tui_form_lib.specs.declared.field.FormField.{FormField}

-- setting a field changes it at its index
pub changed_set : (change : FieldData → FieldData) (xs : List FormField) (i : ℕ) (x y : FormField) → i < length xs → x ≡ get_or xs i x
    → field_data y ≡ change (field_data x) → map field_data (set xs i y) ≡ changed_at change i (map field_data xs)
changed_set change [] i x y lt is changed = absurd (omega arith)
changed_set change (z ∷ zs) zero x y lt is changed =
    ap (λ (f : FieldData). f ∷ map field_data zs) (changed ∙ ap (λ (f : FormField). change (field_data f)) is)
changed_set change (z ∷ zs) (suc i) x y lt is changed =
    ap (λ (fs : List FieldData). field_data z ∷ fs) (changed_set change zs i x y (omega arith) is changed)

-- setting a field to the same value changes nothing
pub kept_set : (xs : List FormField) (i : ℕ) (x y : FormField) → i < length xs → x ≡ get_or xs i x → field_data y ≡ field_data x
    → map field_data (set xs i y) ≡ map field_data xs
kept_set [] i x y lt is same = absurd (omega arith)
kept_set (z ∷ zs) zero x y lt is same = ap (λ (f : FieldData). f ∷ map field_data zs) (same ∙ ap field_data is)
kept_set (z ∷ zs) (suc i) x y lt is same = ap (λ (fs : List FieldData). field_data z ∷ fs) (kept_set zs i x y (omega arith) is same)

-- reading the field at an index
pub read_at : {A : Type 0} (read : FieldData → A) (none : A) (xs : List FormField) (i : ℕ) (x : FormField) → i < length xs → x ≡ get_or xs i x
    → option_map_or read (slice_get (map field_data xs) i) none ≡ read (field_data x)
read_at read none [] i x lt is = absurd (omega arith)
read_at read none (z ∷ zs) zero x lt is = ap (λ (f : FormField). read (field_data f)) (sym is)
read_at read none (z ∷ zs) (suc i) x lt is = read_at read none zs i x (omega arith) is

-- reading past the fields
pub read_past : {A : Type 0} (read : FieldData → A) (none : A) (fs : List FieldData) (i : ℕ) → length fs ≤ i → option_map_or read (slice_get fs i) none ≡ none
read_past read none [] i past = refl
read_past read none (f ∷ fs) zero past = absurd (omega arith)
read_past read none (f ∷ fs) (suc i) past = read_past read none fs i (omega arith)

pub same_past : (change : FieldData → FieldData) (fs : List FieldData) (i : ℕ) → length fs ≤ i → fs ≡ changed_at change i fs
same_past change [] i past = refl
same_past change (f ∷ fs) zero past = absurd (omega arith)
same_past change (f ∷ fs) (suc i) past = ap (λ (gs : List FieldData). f ∷ gs) (same_past change fs i (omega arith))

-- a change keeps the length
pub length-changed_at : (change : FieldData → FieldData) (i : ℕ) (fs : List FieldData) → length (changed_at change i fs) ≡ length fs
length-changed_at change i [] = refl
length-changed_at change zero (f ∷ fs) = refl
length-changed_at change (suc i) (f ∷ fs) = ap (λ (n : ℕ). suc n) (length-changed_at change i fs)

-- reading a field that was changed
pub read_changed : {A : Type 0} (read : FieldData → A) (none : A) (change : FieldData → FieldData) (xs : List FormField) (i : ℕ) (x : FormField) → i < length xs
    → x ≡ get_or xs i x → option_map_or read (slice_get (changed_at change i (map field_data xs)) i) none ≡ read (change (field_data x))
read_changed read none change [] i x lt is = absurd (omega arith)
read_changed read none change (z ∷ zs) zero x lt is = ap (λ (f : FormField). read (change (field_data f))) (sym is)
read_changed read none change (z ∷ zs) (suc i) x lt is = read_changed read none change zs i x (omega arith) is
