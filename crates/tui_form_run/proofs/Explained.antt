-- A form that is rejected has a fault, whose steps lead to what it says is there.
use Rattle.std.proofs.Common.{zero-add, ◌≡◌, ℕ, ◌+◌, List, IsSome, Option, Some, None, Ok, option_and_then, codes, refl, ap, ◌∙◌}
use Rattle.serde_json.specs.Data.{Data, Items}
use Rattle.serde_json.specs.Find.{as_bool, as_str, at, get}
use Rattle.tui_form_run.specs.Faults.{a_kind, a_string, field_fault, form_fault, key_fault, object_fault, some_fields, string_fault, value_fault}
use Rattle.tui_form_run.specs.Input.{check_of, choice_of, field_of, filled_of, first_items, form_of, initial_choice, name_of, name_text, optional, required, texts_of, typed_text_of, unless_taken}
use Rattle.tui_form_run.specs.Kinds.{kinds}
use Rattle.tui_form_run.specs.Refusals.{bad_form, key_name}
use Rattle.tui_form_run.specs.declared.bad_form.BadForm.{BadForm}
use Rattle.tui_form_run.specs.declared.field_kind.FieldKind.{FieldKind}
use Rattle.tui_form_run.specs.declared.field_kind.FieldKind.TheVariants.{Text, Choice, Check}
use Rattle.tui_form_run.specs.declared.key.FormKey.{FormKey}
use Rattle.tui_form_run.specs.declared.key.FormKey.TheVariants as keys
use Rattle.tui_json.proofs.Leading.{FailsWith, accepted, bad_value, fails_optional, fails_or_reject, fails_required, is_there, leads_elements, leads_inside_at, leads_leaf, leads_member, leads_not_allowed, leads_of, leads_optional_member, leads_or, never_fails, numbered_error, object_at, one_then, optional_there, or_first, or_second, some_inside_at}
use Rattle.tui_json.specs.Faults.{FaultData, Leads, WantedData, elements_fault, fault_of, member_fault, no_parts, number, optional_member_fault, text, values, words}
use Rattle.tui_json.specs.Members.{member, optional_member}
use Rattle.tui_json.specs.Named.{named_of}
use Rattle.tui_json.specs.Number.{within}
use Rattle.tui_json.specs.Objects.{object_of, objects_within}
use Rattle.tui_json.specs.Refusals.{numbered, or_reject}

-- ---- a rejected field has a fault

-- the rejection is of the field of an index, at a key that has a fault
abbrev IsFaulty : ℕ → Data → BadForm → Type 0
IsFaulty i d bad = (bad.at ≡ Some i) × IsSome (field_fault bad.key d)

required_faulty : {A : Type 0} (kind : Data → Option A) (wanted : WantedData) (parts : Data → Option FaultData) (i : ℕ) (k : FormKey) (d : Data) →
    (IsSome (member_fault wanted (fault_of kind wanted parts) (key_name k) d) → IsSome (field_fault k d)) →
    FailsWith (IsFaulty i d) (required kind (Some i) k d)
required_faulty kind wanted parts i k d holds =
    fails_required (IsFaulty i d) kind wanted parts (key_name k) (bad_form (Some i) k) d (λ is. (refl, holds is))

optional_faulty : {A : Type 0} (kind : Data → Option A) (wanted : WantedData) (i : ℕ) (k : FormKey) (d : Data) →
    (IsSome (optional_member_fault (fault_of kind wanted no_parts) (key_name k) d) → IsSome (field_fault k d)) →
    FailsWith (IsFaulty i d) (optional kind (Some i) k d)
optional_faulty kind wanted i k d holds =
    fails_optional (IsFaulty i d) kind wanted no_parts (key_name k) (bad_form (Some i) k) d (λ is. (refl, holds is))

needed_faulty : (i : ℕ) (d : Data) → FailsWith (IsFaulty i d) (optional as_bool (Some i) keys.Needed d)
needed_faulty i d = optional_faulty as_bool (words (codes "true or false")) i keys.Needed d (λ is. is)

name_faulty : (ds : Items) (i : ℕ) (d : Data) → FailsWith (IsFaulty i d) (name_of ds i d)
unfolding name_of
name_faulty ds i d =
    one_then (IsFaulty i d) (required name_text (Some i) keys.Name d) _
    (required_faulty name_text (text 1 64) no_parts i keys.Name d (or_first _ _))
    (λ name has. let there = is_there name_text (codes "name") d name
    (accepted (bad_form (Some i) keys.Name) (member name_text (codes "name") d) name has) in
    fails_or_reject (IsFaulty i d) (bad_form (Some i) keys.Name) (unless_taken name (first_items i ds))
    (λ taken. (refl, or_second _ _ (bad_value (words (codes "a name that no field before it has")) (codes "name") d there.0 there.1))))

-- the kind that a field has
abbrev HasKind : FieldKind → Data → Type 0
HasKind kind d = member (named_of kinds) (codes "kind") d ≡ Some kind

text_faulty : (i : ℕ) (d : Data) → HasKind Text d → FailsWith (IsFaulty i d) (typed_text_of i d)
unfolding typed_text_of
text_faulty i d has =
    one_then (IsFaulty i d) (optional (within 1 1000) (Some i) keys.Most d) _ (optional_faulty (within 1 1000) (number 1 1000) i keys.Most d (λ is. is))
    (λ most _. one_then (IsFaulty i d) (optional as_bool (Some i) keys.Mask d) _
    (optional_faulty as_bool (words (codes "true or false")) i keys.Mask d (λ is. is))
    (λ mask _. one_then (IsFaulty i d) (optional as_bool (Some i) keys.Needed d) _ (needed_faulty i d)
    (λ needed _. one_then (IsFaulty i d) (optional as_str (Some i) keys.Value d) _ (optional_faulty as_str a_string i keys.Value d (λ is. rw has is))
    (λ value _. never_fails (IsFaulty i d) _))))

check_faulty : (i : ℕ) (d : Data) → HasKind Check d → FailsWith (IsFaulty i d) (check_of i d)
unfolding check_of
check_faulty i d has =
    one_then (IsFaulty i d) (optional as_bool (Some i) keys.Needed d) _ (needed_faulty i d)
    (λ needed _. one_then (IsFaulty i d) (optional as_bool (Some i) keys.Value d) _
    (optional_faulty as_bool (words (codes "true or false")) i keys.Value d (λ is. rw has is))
    (λ is_on _. never_fails (IsFaulty i d) _))

-- a choice that is none of the texts was given
was_given : (texts : List (List ℕ)) (given : Option (List ℕ)) → initial_choice texts given ≡ None → (t : List ℕ) × (given ≡ Some t)
was_given texts None e = cc
was_given texts (Some t) e = (t, refl)

value_there : (texts : List (List ℕ)) (i : ℕ) (d : Data) (given : Option (List ℕ)) → optional as_str (Some i) keys.Value d ≡ Ok given →
    initial_choice texts given ≡ None → (m : Data) × (get (codes "value") d ≡ Some m)
value_there texts i d given is none =
    let text = was_given texts given none in
    let read = accepted (bad_form (Some i) keys.Value) (optional_member as_str (codes "value") d) given is in
    let there = optional_there as_str (codes "value") d text.0 (read ∙ ap (λ x. Some x) text.1) in
    (there.0, there.1)

choice_faulty : (i : ℕ) (d : Data) → HasKind Choice d → FailsWith (IsFaulty i d) (choice_of i d)
unfolding choice_of
choice_faulty i d has =
    one_then (IsFaulty i d) (required texts_of (Some i) keys.Of d) _
    (required_faulty texts_of (values 1 100 (codes "strings")) (elements_fault string_fault) i keys.Of d (λ is. is))
    (λ texts _. one_then (IsFaulty i d) (optional as_bool (Some i) keys.Needed d) _ (needed_faulty i d)
    (λ needed _. one_then (IsFaulty i d) (optional as_str (Some i) keys.Value d) _
    (optional_faulty as_str a_string i keys.Value d (λ is. rw has (or_first _ _ is)))
    (λ given is. one_then (IsFaulty i d) (or_reject (bad_form (Some i) keys.Value) (initial_choice texts given)) _
    (fails_or_reject (IsFaulty i d) (bad_form (Some i) keys.Value) (initial_choice texts given)
    (λ none. let there = value_there texts i d given is none in
    (refl, rw has (or_second _ _ (bad_value (words (codes "one of the strings in `of`")) (codes "value") d there.0 there.1)))))
    (λ chosen _. never_fails (IsFaulty i d) _))))

filled_faulty : (kind : FieldKind) (i : ℕ) (d : Data) → HasKind kind d → FailsWith (IsFaulty i d) (filled_of kind i d)
filled_faulty Text i d has = text_faulty i d has
filled_faulty Choice i d has = choice_faulty i d has
filled_faulty Check i d has = check_faulty i d has

field_faulty : (ds : Items) (i : ℕ) (d : Data) → FailsWith (IsFaulty i d) (field_of ds i d)
unfolding field_of
field_faulty ds i d =
    one_then (IsFaulty i d) (name_of ds i d) _ (name_faulty ds i d)
    (λ name _. one_then (IsFaulty i d) (required as_str (Some i) keys.Label d) _ (required_faulty as_str a_string no_parts i keys.Label d (λ is. is))
    (λ label _. one_then (IsFaulty i d) (required (named_of kinds) (Some i) keys.Kind d) _
    (required_faulty (named_of kinds) a_kind no_parts i keys.Kind d (λ is. is))
    (λ kind has. one_then (IsFaulty i d) (filled_of kind i d) _
    (filled_faulty kind i d (accepted (bad_form (Some i) keys.Kind) (member (named_of kinds) (codes "kind") d) kind has))
    (λ filled _. never_fails (IsFaulty i d) _))))

-- ---- a rejected form has a fault

-- the form has a fault, if it is rejected so
abbrev HasFault : Data → BadForm → Type 0
HasFault d bad = IsSome (form_fault bad d)

fields_faulty : (d : Data) (ds : Items) → member (objects_within 1 64) (codes "fields") d ≡ Some ds → FailsWith (HasFault d) (numbered (field_of ds) 0 ds)
fields_faulty d ds is bad e =
    let found = numbered_error (field_of ds) 0 ds bad e in
    let faulty = field_faulty ds (0 + found.0) found.1 bad found.3 in
    let all = is_there (objects_within 1 64) (codes "fields") d ds is in
    let there = ap (option_and_then (at found.0)) all.1 ∙ object_at 1 64 all.0 ds found.0 all.2 ∙ found.2 in
    rw (faulty.0 ∙ ap (λ k. Some k) (zero-add found.0)) (some_inside_at (codes "fields") found.0 (field_fault bad.key) d found.1 there faulty.1)

pub form_faulty : (d : Data) → FailsWith (HasFault d) (form_of d)
unfolding form_of
form_faulty d =
    one_then (HasFault d) (required as_str None keys.Title d) _
    (fails_required (HasFault d) as_str a_string no_parts (codes "title") (bad_form None keys.Title) d (λ is. is))
    (λ title _. one_then (HasFault d) (required (objects_within 1 64) None keys.Fields d) _
    (fails_required (HasFault d) (objects_within 1 64) some_fields (elements_fault object_fault) (codes "fields") (bad_form None keys.Fields) d (λ is. is))
    (λ ds are. one_then (HasFault d) (numbered (field_of ds) 0 ds) _
    (fields_faulty d ds (accepted (bad_form None keys.Fields) (member (objects_within 1 64) (codes "fields") d) ds are))
    (λ fields _. never_fails (HasFault d) _)))

-- ---- steps lead to what is there

value_leads : (kind : Option FieldKind) (d : Data) → Leads (value_fault kind d) d
value_leads None d = tt
value_leads (Some Text) d = leads_optional_member string_fault (codes "value") d (leads_leaf as_str a_string)
value_leads (Some Check) d = leads_optional_member _ (codes "value") d (leads_leaf as_bool (words (codes "true or false")))
value_leads (Some Choice) d = leads_or _ _ d (leads_optional_member string_fault (codes "value") d (leads_leaf as_str a_string))
    (leads_not_allowed (words (codes "one of the strings in `of`")) (codes "value") d)

texts_lead : (m : Data) → Leads (fault_of texts_of (values 1 100 (codes "strings")) (elements_fault string_fault) m) m
texts_lead m = leads_of texts_of _ (elements_fault string_fault) m (leads_elements string_fault m (leads_leaf as_str a_string))

field_leads : (k : FormKey) (d : Data) → Leads (field_fault k d) d
field_leads keys.Name d = leads_or _ _ d (leads_member (text 1 64) _ (codes "name") d (leads_leaf name_text (text 1 64)))
    (leads_not_allowed (words (codes "a name that no field before it has")) (codes "name") d)
field_leads keys.Label d = leads_member a_string string_fault (codes "label") d (leads_leaf as_str a_string)
field_leads keys.Kind d = leads_member a_kind _ (codes "kind") d (leads_leaf (named_of kinds) a_kind)
field_leads keys.Most d = leads_optional_member _ (codes "most") d (leads_leaf (within 1 1000) (number 1 1000))
field_leads keys.Mask d = leads_optional_member _ (codes "mask") d (leads_leaf as_bool (words (codes "true or false")))
field_leads keys.Needed d = leads_optional_member _ (codes "needed") d (leads_leaf as_bool (words (codes "true or false")))
field_leads keys.Of d = leads_member _ _ (codes "of") d texts_lead
field_leads keys.Value d = value_leads (member (named_of kinds) (codes "kind") d) d
field_leads keys.Title d = tt
field_leads keys.Fields d = tt

fields_lead : (m : Data) → Leads (fault_of (objects_within 1 64) some_fields (elements_fault object_fault) m) m
fields_lead m = leads_of (objects_within 1 64) some_fields (elements_fault object_fault) m (leads_elements object_fault m (leads_leaf object_of _))

key_leads : (k : FormKey) (d : Data) → Leads (key_fault k d) d
key_leads keys.Title d = leads_member a_string string_fault (codes "title") d (leads_leaf as_str a_string)
key_leads keys.Fields d = leads_member some_fields _ (codes "fields") d fields_lead
key_leads keys.Name d = tt
key_leads keys.Label d = tt
key_leads keys.Kind d = tt
key_leads keys.Most d = tt
key_leads keys.Mask d = tt
key_leads keys.Of d = tt
key_leads keys.Needed d = tt
key_leads keys.Value d = tt

pub form_leads : (d : Data) (bad : BadForm) → Leads (form_fault bad d) d
form_leads d bad = by_place bad.at refl
  where
    by_place : (place : Option ℕ) → bad.at ≡ place → Leads (form_fault bad d) d
    by_place None is = rw is (key_leads bad.key d)
    by_place (Some i) is = rw is (leads_inside_at (codes "fields") i (field_fault bad.key) d (field_leads bad.key))
