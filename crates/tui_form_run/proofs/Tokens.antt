-- The tokens of answers, written one field after another.
use Rattle.std.proofs.Common.{◌≡◌, ℕ, ◌+◌, ◌<◌, ◌≤◌, List, [], ◌∷◌, ◌++◌, length, take, get_or, map, refl, sym, ap, ◌∙◌, append_assoc}
use Rattle.std.specs.List.{flat_map}
use Rattle.std.proofs.lemmas.Grind.{flat_map-append}
use Rattle.std.proofs.lemmas.List.{append-nil, map-append, take_all, take_more}
use Rattle.json.specs.Token.{Token, begin_object, end_object}
use Rattle.json.specs.Tree.{members_tokens}
use Rattle.tui_form_lib.specs.Field.{FieldData, field_data}
use Rattle.tui_form_lib.specs.declared.field.FormField.{FormField}
use Rattle.tui_form_run.specs.Answers.{answer_tokens, answers_tokens, members_of}

-- one more field
pub next_part : (fields : List FormField) (i : ℕ) (f : FormField) (old new : List Token) → i < length fields → f ≡ get_or fields i f →
    new ≡ (old ++ flat_map answer_tokens (map field_data (take i fields))) ++ answer_tokens (field_data f) →
    new ≡ old ++ flat_map answer_tokens (map field_data (take (i + 1) fields))
next_part fields i f old new below is e =
    let first = take i fields in
    let more : take (i + 1) fields ≡ first ++ f ∷ [] = take_more fields i f below ∙ ap (λ (x : FormField). first ++ x ∷ []) (sym is) in
    let last : flat_map answer_tokens (map field_data (f ∷ [])) ≡ answer_tokens (field_data f) = append-nil _ in
    let split : flat_map answer_tokens (map field_data (take (i + 1) fields)) ≡ flat_map answer_tokens (map field_data first) ++ answer_tokens (field_data f) =
    ap (λ (xs : List FormField). flat_map answer_tokens (map field_data xs)) more
    ∙ ap (flat_map answer_tokens) (map-append field_data first (f ∷ []))
    ∙ flat_map-append answer_tokens (map field_data first) (map field_data (f ∷ []))
    ∙ ap (λ (ts : List Token). flat_map answer_tokens (map field_data first) ++ ts) last in
    e ∙ append_assoc old _ _ ∙ ap (λ (ts : List Token). old ++ ts) (sym split)

closed : (fields : List FieldData) → flat_map answer_tokens fields ++ end_object ∷ [] ≡ members_tokens (members_of fields)
closed [] = refl
closed (f ∷ fs) = append_assoc (answer_tokens f) (flat_map answer_tokens fs) (end_object ∷ []) ∙ ap (λ (ts : List Token). answer_tokens f ++ ts) (closed fs)

-- all of them, between braces
pub all_parts : (fields : List FormField) (i : ℕ) (old begun written new : List Token) → length fields ≤ i → begun ≡ old ++ begin_object ∷ [] →
    written ≡ begun ++ flat_map answer_tokens (map field_data (take i fields)) → new ≡ written ++ end_object ∷ [] →
    new ≡ old ++ answers_tokens (map field_data fields)
all_parts fields i old begun written new over begins writes ends =
    let all = ap (λ (xs : List FormField). flat_map answer_tokens (map field_data xs)) (take_all i fields over) in
    let body = flat_map answer_tokens (map field_data fields) in
    ends
    ∙ ap (λ (ts : List Token). ts ++ end_object ∷ []) (writes ∙ ap (λ (ts : List Token). begun ++ ts) all ∙ ap (λ (ts : List Token). ts ++ body) begins)
    ∙ append_assoc (old ++ begin_object ∷ []) body (end_object ∷ [])
    ∙ append_assoc old (begin_object ∷ []) (body ++ end_object ∷ [])
    ∙ ap (λ (ts : List Token). old ++ begin_object ∷ ts) (closed (map field_data fields))
