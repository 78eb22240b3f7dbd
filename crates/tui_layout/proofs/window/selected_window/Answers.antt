use Rattle.std.proofs.Common.{◌-◌, ◌≡◌, arith, length, min}
use Rattle.std.proofs.lemmas.Grind.{common_steps}
use Rattle.tui_layout.proofs.Windows.{shown_reached, tall_reached}
use Rattle.tui_layout.proofs.BinarySearchLaws.{probing_three}
use Rattle.tui_layout.proofs.window.selected_window.Goals as goal

pub returns-then-not-fits-clause-first : goal.returns-then-not-fits-clause-first
returns-then-not-fits-clause-first g c =
    let place : c.min-place.result ≡ min c.args.selected (length c.args.sums.now - 1) = omega arith in
    rw (← place) (tall_reached _ _ _ _ _ (omega arith) (grind (arith, common_steps)))

pub returns-clause-first : goal.returns-clause-first
returns-clause-first g c =
    let place : c.min-place.result ≡ min c.args.selected (length c.args.sums.now - 1) = omega arith in
    rw (← place)
    (shown_reached _ _ _ _ _ _ _ (omega arith) (grind (arith, common_steps)) c.widest_padding-padding.ensures.padding c.nearest_start-first.ensures.nearest)

pub returns-clause-probes : goal.returns-clause-probes
returns-clause-probes g c =
    probing_three _ _ _ _ _ _ c.fits.ensures.step c.widest_padding-padding.ensures.cost c.nearest_start-first.ensures.cost c.end_from-end-2.ensures.cost
