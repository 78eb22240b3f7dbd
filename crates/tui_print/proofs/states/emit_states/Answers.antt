use Rattle.std.proofs.Common.{[], ◌∙◌, ap, ◌++◌, ℕ, List, get_or, refl, sym, append_assoc}
use Rattle.std.proofs.lemmas.List.{append-nil}
use Rattle.tui_scene.specs.Item.{item_data, placed_data}
use Rattle.tui_print.specs.Print.{state_line}
use Rattle.tui_io.proofs.Printing.{Prints-none, Prints-then}
use Rattle.tui_print.proofs.StateLines.{states_end, states_more}
use Rattle.tui_print.proofs.states.emit_states.Goals as goal

pub items-init : goal.items-init
items-init g c = ([], refl, Prints-none _ _)

pub items-preserved : goal.items-preserved
items-preserved g c =
    let inv = c.items.invariant in
    let placed = get_or c.items-items.result.now c.items.number c.index-items-number.result in
    let line = state_line c.items.number (item_data placed.item) in
    let more = states_more placed_data c.items-items.result.now c.args.scene.now c.items.number placed c.index-items-number.result
    c.items-items.ensures c.items-test.true refl in
    (inv.0 ++ line, inv.1 ∙ (ap (λ (t : List ℕ). inv.0 ++ t) more ∙ sym (append_assoc inv.0 line _)), Prints-then inv.2 c.emit_state.ensures)

pub returns : goal.returns
returns g c =
    let inv = c.items.invariant in
    let none = states_end placed_data c.items-items.result.now c.args.scene.now c.items.number c.items-items.ensures c.items-test.false in
    rw (inv.1 ∙ (ap (λ (t : List ℕ). inv.0 ++ t) none ∙ append-nil inv.0)) inv.2
