use Rattle.std.proofs.Common.{subst}
use Rattle.tui_pager_lib.specs.Laws.{IsSoundPager}
use Rattle.tui_pager_lib.specs.Pager.{PagerData}
use Rattle.tui_pager_lib.proofs.Sound.{shows_selected}
use Rattle.tui_pager_lib.proofs.view.PagerView.state.Goals as goal

pub returns-clause-visible : goal.returns-clause-visible
returns-clause-visible c = shows_selected c.args.self.now (subst (λ (p : PagerData). IsSoundPager p) c.self.view_is c.self.invariant.sound)
