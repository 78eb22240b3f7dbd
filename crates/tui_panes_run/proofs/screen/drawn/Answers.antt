use Rattle.std.proofs.Common.{List, length, subst, sym, ◌∙◌, ℕ}
use Rattle.tui_scene.specs.Redraw.{IsOrder}
use Rattle.tui_panes_run.specs.Input.{input_data}
use Rattle.tui_panes_run.proofs.Changing.{still_below}
use Rattle.tui_panes_run.proofs.Numbers.{is_order}
use Rattle.tui_panes_run.proofs.screen.drawn.Goals as goal

pub draw_all-requires : goal.draw_all-requires
draw_all-requires c =
    let count = length c.in_ok-panes.panes.leaves in
    subst (λ (ns : List ℕ). IsOrder count ns) (sym (c.deref.ensures.value ∙ c.in_ok-numbers.ensures)) (is_order c.args.order count)

pub change_each-requires : goal.change_each-requires
change_each-requires c =
    still_below (input_data c.args.input) c.in_ok-panes.panes c.draw_all.new.panes _ _ c.in_ok-panes.ensures c.in_ok-draw_all.ensures.states c.requires.leaves
