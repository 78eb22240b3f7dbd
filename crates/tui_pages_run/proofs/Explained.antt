-- A report that is rejected has a fault, whose steps lead to what it says is there.
use Rattle.std.proofs.Common.{zero-add, ◌≡◌, ℕ, ◌+◌, ◌<◌, zero, suc, List, [], ◌∷◌, length, IsSome, Option, Some, None, Result, Ok, Err, codes, refl, ap, ◌∙◌, subst, arith}
use Rattle.std.specs.Prelude.{nat_lt}
use Rattle.std.proofs.lemmas.List.{length-map}
use Rattle.std.proofs.lemmas.List.Quantifiers.{position-Some}
use Rattle.serde_json.specs.Data.{Data, Items, no_items, item}
use Rattle.serde_json.specs.Find.{as_str, get_item}
use Rattle.tui_json.proofs.Leading.{FailsWith, accepted, constraint_leads, fails_or_reject, fails_required, item_at, leads_elements, leads_inside_at, leads_leaf, leads_member, leads_of, leads_whole, never_fails, not_of_kind, numbered_error, one_then, some_inside_at}
use Rattle.tui_json.specs.Constraint.{a_constraint, constraint_fault, constraint_of}
use Rattle.tui_json.specs.Faults.{Leads, WantedData, elements_fault, fault_of, inside_at, member_fault, no_parts, number, value_at, words}
use Rattle.tui_json.specs.Members.{elements_within, member}
use Rattle.tui_json.specs.Number.{within}
use Rattle.tui_json.specs.Refusals.{numbered}
use Rattle.tui_pages_lib.specs.Heights.{heights_of, max_lines, record_height}
use Rattle.tui_pages_lib.specs.Report.{places_of}
use Rattle.tui_pages_run.proofs.Bounds.{bind_ok}
use Rattle.tui_pages_run.specs.Faults.{a_string, column_fault, field_fault, record_fault, report_fault, some_columns, some_records, some_texts, string_fault, tall_fault}
use Rattle.tui_pages_run.specs.Input.{InputData, column_of, first_too_tall, input_of, record_of, report_in, report_or_too_tall, required, sheet_of, texts_of}
use Rattle.tui_pages_run.specs.Refusals.{bad_input, field_name}
use Rattle.tui_pages_run.specs.declared.field.ReportField.{ReportField}
use Rattle.tui_pages_run.specs.declared.field.ReportField.TheVariants as fields
use Rattle.tui_pages_run.specs.declared.refusal.PagesRefusal.{PagesRefusal}
use Rattle.tui_pages_run.specs.declared.refusal.PagesRefusal.TheVariants as refusals

-- the report has a fault, if it is rejected so
abbrev HasFault : Data → PagesRefusal → Type 0
HasFault d bad = IsSome (report_fault bad d)

-- ---- a rejected field has a fault

field_faulty : {A : Type 0} (kind : Data → Option A) (wanted : WantedData) (f : ReportField) (d : Data) →
    (IsSome (member_fault wanted (fault_of kind wanted no_parts) (field_name f) d) → HasFault d (bad_input None f)) →
    FailsWith (HasFault d) (required kind None f d)
field_faulty kind wanted f d holds = fails_required (HasFault d) kind wanted no_parts (field_name f) (bad_input None f) d holds

sheet_faulty : (d : Data) → FailsWith (HasFault d) (sheet_of d)
unfolding sheet_of
sheet_faulty d =
    one_then (HasFault d) (required (within 1 200) None fields.Width d) _ (field_faulty (within 1 200) (number 1 200) fields.Width d (λ is. is))
    (λ width has. one_then (HasFault d) (required (within 4 200) None fields.Height d) _
    (field_faulty (within 4 200) (number 4 200) fields.Height d (λ is. is))
    (λ height also. one_then (HasFault d) (required as_str None fields.Title d) _ (field_faulty as_str a_string fields.Title d (λ is. is))
    (λ title too. never_fails (HasFault d) _)))

column_faulty : (i : ℕ) (d m : Data) → value_at (codes "columns") i d ≡ Some m → FailsWith (HasFault d) (column_of i m)
unfolding column_of
column_faulty i d m there =
    one_then (HasFault d) (required as_str (Some i) fields.Name m) _
    (fails_required (HasFault d) as_str a_string no_parts (codes "name") (bad_input (Some i) fields.Name) m
    (some_inside_at (codes "columns") i (column_fault fields.Name) d m there))
    (λ name has. one_then (HasFault d) (required constraint_of (Some i) fields.Size m) _
    (fails_required (HasFault d) constraint_of a_constraint constraint_fault (codes "size") (bad_input (Some i) fields.Size) m
    (some_inside_at (codes "columns") i (column_fault fields.Size) d m there))
    (λ size also. never_fails (HasFault d) _))

record_faulty : (i : ℕ) (d m : Data) → value_at (codes "records") i d ≡ Some m → FailsWith (HasFault d) (record_of i m)
record_faulty i d m there = fails_or_reject (HasFault d) (bad_input (Some i) fields.Records) (texts_of m)
    (λ none. some_inside_at (codes "records") i record_fault d m there (not_of_kind texts_of some_texts (elements_fault string_fault) m none))

columns_faulty : (d : Data) (ds : Items) → member (elements_within 1 32) (codes "columns") d ≡ Some ds → FailsWith (HasFault d) (numbered column_of 0 ds)
columns_faulty d ds is bad e =
    let found = numbered_error column_of 0 ds bad e in
    column_faulty found.0 d found.1 (item_at 1 32 (codes "columns") found.0 d found.1 ds is found.2) bad
    (subst (λ i. column_of i found.1 ≡ Err bad) (zero-add found.0) found.3)

records_faulty : (d : Data) (ds : Items) → member (elements_within 0 10000) (codes "records") d ≡ Some ds →
    FailsWith (HasFault d) (numbered record_of 0 ds)
records_faulty d ds is bad e =
    let found = numbered_error record_of 0 ds bad e in
    record_faulty found.0 d found.1 (item_at 0 10000 (codes "records") found.0 d found.1 ds is found.2) bad
    (subst (λ i. record_of i found.1 ≡ Err bad) (zero-add found.0) found.3)

input_faulty : (d : Data) → FailsWith (HasFault d) (input_of d)
unfolding input_of
input_faulty d =
    one_then (HasFault d) (sheet_of d) _ (sheet_faulty d)
    (λ sheet sized. one_then (HasFault d) (required (elements_within 1 32) None fields.Columns d) _
    (field_faulty (elements_within 1 32) some_columns fields.Columns d (λ is. is))
    (λ column_values are. one_then (HasFault d) (numbered column_of 0 column_values) _
    (columns_faulty d column_values (accepted (bad_input None fields.Columns) (member (elements_within 1 32) (codes "columns") d) column_values are))
    (λ columns read. one_then (HasFault d) (required (elements_within 0 10000) None fields.Records d) _
    (field_faulty (elements_within 0 10000) some_records fields.Records d (λ is. is))
    (λ record_values also. one_then (HasFault d) (numbered record_of 0 record_values) _
    (records_faulty d record_values (accepted (bad_input None fields.Records) (member (elements_within 0 10000) (codes "records") d) record_values also))
    (λ records too. never_fails (HasFault d) _)))))

-- ---- a record that is too tall is there

-- the values that an input's records were read from
records_are : (d : Data) (input : InputData) → input_of d ≡ Ok input →
    (ds : Items) × (member (elements_within 0 10000) (codes "records") d ≡ Some ds) × (numbered record_of 0 ds ≡ Ok input.records)
unfolding input_of
records_are d input is =
    let sheet = bind_ok (sheet_of d) _ input is in
    let column_values = bind_ok (required (elements_within 1 32) None fields.Columns d) _ input sheet.2 in
    let columns = bind_ok (numbered column_of 0 column_values.0) _ input column_values.2 in
    let record_values = bind_ok (required (elements_within 0 10000) None fields.Records d) _ input columns.2 in
    let records = bind_ok (numbered record_of 0 record_values.0) _ input record_values.2 in
    let made : InputData = record { sheet = sheet.0; columns = columns.0; records = records.0 } in (
      record_values.0,
      accepted (bad_input None fields.Records) (member (elements_within 0 10000) (codes "records") d) record_values.0 record_values.1,
      records.1 ∙ ap (λ (x : InputData). Ok x.records) (same_ok made input (Ok made) refl records.2),
    )
  where
    same_ok : (one other : InputData) (r : Result InputData PagesRefusal) → r ≡ Ok one → r ≡ Ok other → one ≡ other
    same_ok one other r is also = cc

-- of as many values as were read, each is there
value_there : {A R : Type 0} (tests : ℕ → Data → Result A R) (i : ℕ) (ds : Items) (xs : List A) (j : ℕ) → numbered tests i ds ≡ Ok xs →
    j < length xs → (m : Data) × (get_item j ds ≡ Some m)
unfolding numbered
value_there tests i no_items [] j e inside = absurd (omega arith)
value_there tests i no_items (x ∷ xs) j e inside = cc
value_there tests i (item d ds) xs zero e inside = (d, refl)
value_there tests i (item d ds) [] (suc j) e inside = absurd (omega arith)
value_there tests i (item d ds) (x ∷ xs) (suc j) e inside =
    let first = bind_ok (tests i d) _ (x ∷ xs) e in
    let rest = bind_ok (numbered tests (i + 1) ds) _ (x ∷ xs) first.2 in
    let same : rest.0 ≡ xs = cc in
    value_there tests (i + 1) ds rest.0 j rest.1 (omega (arith, ap length same))

tall_faulty : (d : Data) (input : InputData) (place : Option ℕ) → input_of d ≡ Ok input → first_too_tall input ≡ place →
    FailsWith (HasFault d) (report_or_too_tall input place)
tall_faulty d input None is so bad e = cc
tall_faulty d input (Some place) is so bad e =
    let places = places_of input.sheet.width input.columns in
    let tall = position-Some (nat_lt max_lines) (heights_of places input.records) place 0 so in
    let inside : place < length input.records = omega (arith, tall.0, length-map input.records (record_height places)) in
    let records = records_are d input is in
    let there = value_there record_of 0 records.0 input.records place records.2 inside in
    let same : refusals.TooTall place ≡ bad = cc in
    subst (HasFault d) same
    (some_inside_at (codes "records") place tall_fault d there.0 (item_at 0 10000 (codes "records") place d there.0 records.0 records.1 there.1) refl)

pub report_faulty : (d : Data) → FailsWith (HasFault d) (report_in d)
unfolding report_in
report_faulty d = one_then (HasFault d) (input_of d) _ (input_faulty d) (λ input is. tall_faulty d input (first_too_tall input) is refl)

-- ---- steps lead to what is there

string_leads : (m : Data) → Leads (string_fault m) m
string_leads = leads_leaf as_str a_string

field_leads : (f : ReportField) (d : Data) → Leads (field_fault f d) d
field_leads fields.Width d = leads_member _ _ (codes "width") d (leads_leaf (within 1 200) (number 1 200))
field_leads fields.Height d = leads_member _ _ (codes "height") d (leads_leaf (within 4 200) (number 4 200))
field_leads fields.Title d = leads_member a_string string_fault (codes "title") d string_leads
field_leads fields.Columns d = leads_member _ _ (codes "columns") d (leads_leaf (elements_within 1 32) some_columns)
field_leads fields.Records d = leads_member _ _ (codes "records") d (leads_leaf (elements_within 0 10000) some_records)
field_leads fields.Name d = tt
field_leads fields.Size d = tt

column_leads : (f : ReportField) (d : Data) → Leads (column_fault f d) d
column_leads fields.Name d = leads_member a_string string_fault (codes "name") d string_leads
column_leads fields.Size d = leads_member a_constraint (fault_of constraint_of a_constraint constraint_fault) (codes "size") d
    (λ m. leads_of constraint_of a_constraint constraint_fault m (constraint_leads m))
column_leads fields.Width d = tt
column_leads fields.Height d = tt
column_leads fields.Title d = tt
column_leads fields.Columns d = tt
column_leads fields.Records d = tt

record_leads : (m : Data) → Leads (record_fault m) m
record_leads m = leads_of texts_of some_texts (elements_fault string_fault) m (leads_elements string_fault m string_leads)

pub report_leads : (d : Data) (bad : PagesRefusal) → Leads (report_fault bad d) d
report_leads d (refusals.TooTall place) =
    leads_inside_at (codes "records") place tall_fault d (leads_whole (words (codes "at most 4096 lines in its columns")))
report_leads d (refusals.BadInput None f) = field_leads f d
report_leads d (refusals.BadInput (Some i) f) = by_field f
  where
    in_column : (f : ReportField) → Leads (inside_at (codes "columns") i (column_fault f) d) d
    in_column f = leads_inside_at (codes "columns") i (column_fault f) d (column_leads f)

    by_field : (f : ReportField) → Leads (report_fault (bad_input (Some i) f) d) d
    by_field fields.Records = leads_inside_at (codes "records") i record_fault d record_leads
    by_field fields.Name = in_column fields.Name
    by_field fields.Size = in_column fields.Size
    by_field fields.Width = in_column fields.Width
    by_field fields.Height = in_column fields.Height
    by_field fields.Title = in_column fields.Title
    by_field fields.Columns = in_column fields.Columns
