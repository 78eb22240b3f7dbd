-- An input that is rejected has a fault, whose steps lead to what it says is there.
use Rattle.std.proofs.Common.{zero-add, ◌≡◌, ℕ, IsSome, Option, Some, None, Err, codes, refl, subst}
use Rattle.serde_json.specs.Data.{Data, Items}
use Rattle.tui_json.proofs.Leading.{FailsWith, accepted, fails_or_reject, fails_required, item_at, leads_inside_at, leads_leaf, leads_member, never_fails, not_of_kind, numbered_error, one_then, some_inside_at}
use Rattle.tui_json.specs.Faults.{Leads, WantedData, fault_of, inside_at, member_fault, no_parts, number, text, value_at, values}
use Rattle.tui_json.specs.Members.{elements_within, member}
use Rattle.tui_json.specs.Number.{within}
use Rattle.tui_json.specs.Refusals.{numbered}
use Rattle.tui_json.specs.Text.{short}
use Rattle.tui_pager_run.specs.Faults.{a_step, entry_fault, field_fault, input_fault}
use Rattle.tui_pager_run.specs.Input.{call_of, entry_of, input_of, key_of, required, screen_size_of}
use Rattle.tui_pager_run.specs.Refusals.{bad_input, field_name}
use Rattle.tui_pager_run.specs.declared.bad_input.BadInput.{BadInput}
use Rattle.tui_pager_run.specs.declared.field.PagerField.{PagerField}
use Rattle.tui_pager_run.specs.declared.field.PagerField.TheVariants as fields

-- ---- a fault is found

-- the input has a fault, if it is rejected so
abbrev HasFault : Data → BadInput → Type 0
HasFault d bad = IsSome (input_fault bad d)

abbrev some : WantedData
some = values 0 1000 (codes "values")

-- a field of the input
field_faulty : {A : Type 0} (kind : Data → Option A) (wanted : WantedData) (f : PagerField) (d : Data) →
    (IsSome (member_fault wanted (fault_of kind wanted no_parts) (field_name f) d) → HasFault d (bad_input None f)) →
    FailsWith (HasFault d) (required kind None f d)
field_faulty kind wanted f d holds = fails_required (HasFault d) kind wanted no_parts (field_name f) (bad_input None f) d holds

size_faulty : (d : Data) → FailsWith (HasFault d) (screen_size_of d)
unfolding screen_size_of
size_faulty d =
    one_then (HasFault d) (required (within 12 200) None fields.Width d) _ (field_faulty (within 12 200) (number 12 200) fields.Width d (λ is. is))
    (λ width has. one_then (HasFault d) (required (within 5 100) None fields.Height d) _
    (field_faulty (within 5 100) (number 5 100) fields.Height d (λ is. is))
    (λ height also. never_fails (HasFault d) _))

-- a field of an entry
entry_field_faulty : (most i : ℕ) (f : PagerField) (d m : Data) → value_at (codes "entries") i d ≡ Some m →
    (IsSome (member_fault (text 0 most) (fault_of (short most) (text 0 most) no_parts) (field_name f) m) → IsSome (entry_fault f m)) →
    (IsSome (inside_at (codes "entries") i (entry_fault f) d) → HasFault d (bad_input (Some i) f)) →
    FailsWith (HasFault d) (required (short most) (Some i) f m)
entry_field_faulty most i f d m there of_field holds =
    fails_required (HasFault d) (short most) (text 0 most) no_parts (field_name f) (bad_input (Some i) f) m
    (λ is. holds (some_inside_at (codes "entries") i (entry_fault f) d m there (of_field is)))

entry_faulty : (i : ℕ) (d m : Data) → value_at (codes "entries") i d ≡ Some m → FailsWith (HasFault d) (entry_of i m)
unfolding entry_of
entry_faulty i d m there =
    one_then (HasFault d) (required (short 1000) (Some i) fields.Title m) _
    (entry_field_faulty 1000 i fields.Title d m there (λ is. is) (λ is. is))
    (λ title has. one_then (HasFault d) (required (short 65536) (Some i) fields.Body m) _
    (entry_field_faulty 65536 i fields.Body d m there (λ is. is) (λ is. is))
    (λ body also. never_fails (HasFault d) _))

key_faulty : (i : ℕ) (d m : Data) → value_at (codes "keys") i d ≡ Some m → FailsWith (HasFault d) (key_of i m)
key_faulty i d m there = fails_or_reject (HasFault d) (bad_input (Some i) fields.Keys) (call_of m)
    (λ none. some_inside_at (codes "keys") i (fault_of call_of a_step no_parts) d m there (not_of_kind call_of a_step no_parts m none))

entries_faulty : (d : Data) (ds : Items) → member (elements_within 0 1000) (codes "entries") d ≡ Some ds →
    FailsWith (HasFault d) (numbered entry_of 0 ds)
entries_faulty d ds is bad e =
    let found = numbered_error entry_of 0 ds bad e in
    entry_faulty found.0 d found.1 (item_at 0 1000 (codes "entries") found.0 d found.1 ds is found.2) bad
    (subst (λ i. entry_of i found.1 ≡ Err bad) (zero-add found.0) found.3)

keys_faulty : (d : Data) (ds : Items) → member (elements_within 0 1000) (codes "keys") d ≡ Some ds → FailsWith (HasFault d) (numbered key_of 0 ds)
keys_faulty d ds is bad e =
    let found = numbered_error key_of 0 ds bad e in
    key_faulty found.0 d found.1 (item_at 0 1000 (codes "keys") found.0 d found.1 ds is found.2) bad
    (subst (λ i. key_of i found.1 ≡ Err bad) (zero-add found.0) found.3)

pub input_faulty : (d : Data) → FailsWith (HasFault d) (input_of d)
unfolding input_of
input_faulty d =
    one_then (HasFault d) (screen_size_of d) _ (size_faulty d)
    (λ size sized. one_then (HasFault d) (required (elements_within 0 1000) None fields.Entries d) _
    (field_faulty (elements_within 0 1000) some fields.Entries d (λ is. is))
    (λ entry_values are. one_then (HasFault d) (numbered entry_of 0 entry_values) _
    (entries_faulty d entry_values (accepted (bad_input None fields.Entries) (member (elements_within 0 1000) (codes "entries") d) entry_values are))
    (λ entries read. one_then (HasFault d) (required (elements_within 0 1000) None fields.Keys d) _
    (field_faulty (elements_within 0 1000) some fields.Keys d (λ is. is))
    (λ key_values also. one_then (HasFault d) (numbered key_of 0 key_values) _
    (keys_faulty d key_values (accepted (bad_input None fields.Keys) (member (elements_within 0 1000) (codes "keys") d) key_values also))
    (λ calls too. never_fails (HasFault d) _)))))

-- ---- steps lead to what is there

field_leads : (f : PagerField) (d : Data) → Leads (field_fault f d) d
field_leads fields.Width d = leads_member _ _ (codes "width") d (leads_leaf (within 12 200) (number 12 200))
field_leads fields.Height d = leads_member _ _ (codes "height") d (leads_leaf (within 5 100) (number 5 100))
field_leads fields.Entries d = leads_member _ _ (codes "entries") d (leads_leaf (elements_within 0 1000) some)
field_leads fields.Keys d = leads_member _ _ (codes "keys") d (leads_leaf (elements_within 0 1000) some)
field_leads fields.Title d = tt
field_leads fields.Body d = tt

entry_leads : (f : PagerField) (d : Data) → Leads (entry_fault f d) d
entry_leads fields.Title d = leads_member _ _ (codes "title") d (leads_leaf (short 1000) (text 0 1000))
entry_leads fields.Body d = leads_member _ _ (codes "body") d (leads_leaf (short 65536) (text 0 65536))
entry_leads fields.Width d = tt
entry_leads fields.Height d = tt
entry_leads fields.Entries d = tt
entry_leads fields.Keys d = tt

pub input_leads : (d : Data) (bad : BadInput) → Leads (input_fault bad d) d
input_leads d bad = by_place bad.at bad.field refl refl
  where
    in_entry : (i : ℕ) (f : PagerField) → Leads (inside_at (codes "entries") i (entry_fault f) d) d
    in_entry i f = leads_inside_at (codes "entries") i (entry_fault f) d (entry_leads f)

    by_place : (place : Option ℕ) (f : PagerField) → bad.at ≡ place → bad.field ≡ f → Leads (input_fault bad d) d
    by_place None f is so = rw (is, so) (field_leads f d)
    by_place (Some i) fields.Keys is so = rw (is, so) (leads_inside_at (codes "keys") i _ d (leads_leaf call_of a_step))
    by_place (Some i) fields.Title is so = rw (is, so) (in_entry i fields.Title)
    by_place (Some i) fields.Body is so = rw (is, so) (in_entry i fields.Body)
    by_place (Some i) fields.Width is so = rw (is, so) (in_entry i fields.Width)
    by_place (Some i) fields.Height is so = rw (is, so) (in_entry i fields.Height)
    by_place (Some i) fields.Entries is so = rw (is, so) (in_entry i fields.Entries)
