use Rattle.std.proofs.Common.{ap, ◌∙◌}
use Rattle.tui_pages_lib.specs.Filling.{Draft}
use Rattle.tui_pages_lib.proofs.Keeping.{all_ended}
use Rattle.tui_pages_lib.proofs.filling.Filling.finish.Goals as goal

pub invariant_of-result : goal.invariant_of-result
invariant_of-result c =
    all_ended c.self.inside.pieces.items c.self.inside.ends.items _ _ c.self.invariant
    (ap (λ (d : Draft). d.current) (c.self.view_is ∙ c.in_ok-end_page.ensures))
