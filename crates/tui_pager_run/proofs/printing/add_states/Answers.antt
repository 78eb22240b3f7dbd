use Rattle.std.proofs.Common.{[], ◌∙◌, ap, ◌++◌, ℕ, List, get_or, None, refl, sym, append_assoc}
use Rattle.std.proofs.lemmas.List.{append-nil}
use Rattle.tui_io.proofs.Printing.{Prints-none, Prints-then}
use Rattle.tui_pager_run.specs.Printed.{key_line}
use Rattle.tui_pager_run.proofs.KeyLines.{lines_end, lines_more}
use Rattle.tui_pager_run.proofs.printing.add_states.Goals as goal
use Rattle.tui_pager_lib.specs.declared.state.PagerState.{PagerState}

pub states-init : goal.states-init
states-init g c = ([], refl, Prints-none _ _)

pub states-preserved : goal.states-preserved
states-preserved g c =
    let inv = c.states.invariant in
    let none : PagerState = record { selected = None; offset = 0; line = 0 } in
    let line = key_line c.states.number (get_or c.args.states.now c.states.number none) in
    let more = lines_more c.args.states.now c.states.number none c.states-test.true in
    (inv.0 ++ line, inv.1 ∙ (ap (λ (t : List ℕ). inv.0 ++ t) more ∙ sym (append_assoc inv.0 line _)), Prints-then inv.2 c.add_state.ensures)

pub returns : goal.returns
returns g c =
    let inv = c.states.invariant in
    let none = lines_end c.args.states.now c.states.number c.states-test.false in
    rw (inv.1 ∙ (ap (λ (t : List ℕ). inv.0 ++ t) none ∙ append-nil inv.0)) inv.2
