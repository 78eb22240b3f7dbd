use Rattle.serde_json.specs.View.{view}
use Rattle.tui_pager_run.proofs.Bounds.{size_least}
use Rattle.tui_pager_run.proofs.step.PagerSizeKindPagerField.read.Goals as goal

pub invariant_of-result : goal.invariant_of-result
invariant_of-result c =
    let least = size_least (view c.args.value.now) _ c.in_ok-sides.ensures in
    record { wide = least.0; high = least.1 }
