use Rattle.serde_json.specs.View.{view}
use Rattle.tui_pager_run.specs.declared.field.PagerField.TheVariants as fields
use Rattle.tui_pager_run.proofs.Bounds.{field_least}
use Rattle.tui_pager_run.proofs.input.read_size.Goals as goal

pub invariant_of-result : goal.invariant_of-result
invariant_of-result c = record {
  wide = field_least 12 200 fields.Width (view c.args.value.now) c.in_ok-width.field-0.0 c.in_ok-width.ensures;
  high = field_least 5 100 fields.Height (view c.args.value.now) c.in_ok-height.field-0.0 c.in_ok-height.ensures;
}
