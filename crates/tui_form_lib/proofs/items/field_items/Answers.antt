use Rattle.std.proofs.Common.{Bool, ap, ◌∙◌}
use Rattle.std.specs.Prelude.{◌==◌}
use Rattle.tui_form_lib.proofs.Listed.{one_more}
use Rattle.tui_form_lib.proofs.items.field_items.Goals as goal
use Rattle.tui_form_lib.specs.Field.{field_data}
use Rattle.tui_form_lib.specs.Lines.{field_item}

pub fields-preserved : goal.fields-preserved
fields-preserved c =
    let x = c.index-fields-place.result in
    let item = c.in_ok-field_item.ensures ∙ ap (λ (b : Bool). field_item b (c.fields.place == c.args.focus) (field_data x)) c.is_reported-is_reported.ensures in
    one_more c.args.reported c.args.focus c.args.fields.now c.fields.place x c.fields.items.items c.push.new.self.items c.in_ok-field_item.field-0 c.fields-test.true
    c.index-fields-place.is c.fields.invariant item c.in_ok-push.ensures.items
