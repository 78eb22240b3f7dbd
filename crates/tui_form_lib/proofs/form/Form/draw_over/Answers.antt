use Rattle.std.proofs.Common.{◌<◌, ◌≤◌, [], List, None, length, map, sym, ap, subst, ◌∙◌, arith}
use Rattle.std.proofs.lemmas.List.{length-map}
use Rattle.tui_cells.specs.Layers.{Layer, Painted}
use Rattle.tui_cells.specs.Rect.{intersection_of}
use Rattle.tui_form_lib.proofs.Changed.{changed_set, length-changed_at, read_at, read_changed, read_past, same_past}
use Rattle.tui_form_lib.proofs.form.Form.draw_over.Goals as goal
use Rattle.tui_form_lib.specs.Drawing.{field_drawn, typed_layers, value_cursor}
use Rattle.tui_form_lib.specs.Field.{FieldData, field_data}
use Rattle.tui_form_lib.specs.Form.{form_data}
use Rattle.tui_form_lib.specs.Steps.{changed_at}
use Rattle.tui_form_lib.specs.Value.{ValueData}

pub returns-then-self-len-clause-form : goal.returns-then-self-len-clause-form
returns-then-self-len-clause-form c =
    let s = c.args.self.now in
    let change = field_drawn (intersection_of c.args.row c.args.buf.now.area) in
    let past : length (map field_data s.fields.items) ≤ s.focus = omega (arith, length-map s.fields.items field_data, s.fields.ok.0) in
    ap (λ (fs : List FieldData). record (form_data s) { fields = fs }) (same_past change (map field_data s.fields.items) s.focus past)

pub returns-then-self-len-clause-cursor : goal.returns-then-self-len-clause-cursor
returns-then-self-len-clause-cursor c =
    let s = c.args.self.now in
    let change = field_drawn (intersection_of c.args.row c.args.buf.now.area) in
    let fields = changed_at change s.focus (map field_data s.fields.items) in
    let past : length fields ≤ s.focus =
    omega (arith, length-map s.fields.items field_data, length-changed_at change s.focus (map field_data s.fields.items), s.fields.ok.0) in
    sym (read_past (λ (f : FieldData). value_cursor c.args.row f.value) None fields s.focus past)

pub returns-clause-cells : goal.returns-clause-cells
returns-clause-cells c =
    let s = c.args.self.now in
    let x = c.index_mut.result.now in
    let clip = intersection_of c.args.row c.args.buf.now.area in
    let within : s.focus < length s.fields.items = omega (arith, s.fields.ok.0) in
    let layers = read_at (λ (f : FieldData). typed_layers clip f.value) [] s.fields.items s.focus x within c.index_mut.ensures.value in
    subst (λ (ls : List Layer). Painted ls c.args.buf.now c.draw.new.buf) (sym layers) c.in_ok-place.ensures.cells

pub returns-clause-form : goal.returns-clause-form
returns-clause-form c =
    let s = c.args.self.now in
    let x = c.index_mut.result.now in
    let change = field_drawn (intersection_of c.args.row c.args.buf.now.area) in
    let within : s.focus < length s.fields.items = omega (arith, s.fields.ok.0) in
    let drawn = ap (λ (v : ValueData). record (field_data x) { value = v }) c.in_ok-place.ensures.value in
    ap (λ (fs : List FieldData). record (form_data s) { fields = fs })
    (changed_set change s.fields.items s.focus x (record x { value = c.draw.new.self }) within c.index_mut.ensures.value drawn)

pub returns-clause-cursor : goal.returns-clause-cursor
returns-clause-cursor c =
    let s = c.args.self.now in
    let x = c.index_mut.result.now in
    let change = field_drawn (intersection_of c.args.row c.args.buf.now.area) in
    let within : s.focus < length s.fields.items = omega (arith, s.fields.ok.0) in
    let there = read_changed (λ (f : FieldData). value_cursor c.args.row f.value) None change s.fields.items s.focus x within c.index_mut.ensures.value in
    c.in_ok-place.ensures.cursor ∙ (ap (value_cursor c.args.row) c.in_ok-place.ensures.value ∙ sym there)
