use Rattle.std.proofs.Common.{◌<◌, ℕ, List, Option, length, map, sym, ap, ap₂, false, ◌∙◌, arith}
use Rattle.tui_form_lib.proofs.Changed.{changed_set, kept_set, read_at}
use Rattle.tui_form_lib.proofs.Moved.{value_rests}
use Rattle.tui_form_lib.proofs.form.Form.offer.Goals as goal
use Rattle.tui_form_lib.specs.Field.{FieldData, field_data}
use Rattle.tui_form_lib.specs.Form.{form_data}
use Rattle.tui_form_lib.specs.Steps.{field_after, still_reported}
use Rattle.tui_form_lib.specs.Value.{ValueData, value_data, value_takes}
use Rattle.tui_form_lib.specs.declared.field.FormField.{FormField}

pub returns-then-not-branch-clause-taken : goal.returns-then-not-branch-clause-taken
returns-then-not-branch-clause-taken c =
    let s = c.args.self.now in
    let x = c.index_mut.result.now in
    let within : s.focus < length s.fields.items = omega (arith, s.fields.ok.0) in
    let rests = c.in_ok-take.ensures.ok ∙ value_rests (value_data x.value) c.args.event (sym c.in_ok-take.ensures.takes ∙ c.if-not-branch.true) in
    let same = ap (λ (v : ValueData). record (field_data x) { value = v }) rests in
    ap (λ (fs : List FieldData). record (form_data s) { fields = fs }) (kept_set s.fields.items s.focus x (record x { value = c.take.new.self }) within c.index_mut.ensures.value same)

pub returns-then-not-branch-clause-takes : goal.returns-then-not-branch-clause-takes
returns-then-not-branch-clause-takes c =
    let s = c.args.self.now in
    let x = c.index_mut.result.now in
    let within : s.focus < length s.fields.items = omega (arith, s.fields.ok.0) in
    sym c.if-not-branch.true ∙ (c.in_ok-take.ensures.takes ∙ sym (read_at (λ (f : FieldData). value_takes f.value c.args.event) false s.fields.items s.focus x within c.index_mut.ensures.value))

pub returns-clause-taken : goal.returns-clause-taken
returns-clause-taken c =
    let s = c.args.self.now in
    let x = c.index_mut.result.now in
    let within : s.focus < length s.fields.items = omega (arith, s.fields.ok.0) in
    let after = ap (λ (v : ValueData). record (field_data x) { value = v }) c.in_ok-take.ensures.ok in
    let fields = changed_set (field_after c.args.event) s.fields.items s.focus x (record x { value = c.take.new.self }) within c.index_mut.ensures.value after in
    let reported = c.still_reported-self.ensures ∙ (ap (λ (xs : List FormField). still_reported (map field_data xs) s.reported) c.deref.ensures.value
    ∙ ap (λ (fs : List FieldData). still_reported fs s.reported) fields) in
    ap₂ (λ (fs : List FieldData) (t : Option ℕ). record (form_data s) { fields = fs; reported = t }) fields reported

pub returns-clause-takes : goal.returns-clause-takes
returns-clause-takes c =
    let s = c.args.self.now in
    let x = c.index_mut.result.now in
    let within : s.focus < length s.fields.items = omega (arith, s.fields.ok.0) in
    sym c.if-not-branch.false ∙ (c.in_ok-take.ensures.takes ∙ sym (read_at (λ (f : FieldData). value_takes f.value c.args.event) false s.fields.items s.focus x within c.index_mut.ensures.value))
