use Rattle.std.proofs.Common.{◌≡◌, ℕ, List, ◌++◌, drop}
use Rattle.tui_io.specs.Prints.{Prints}
use Rattle.tui_print.specs.Print.{state_lines}
use Rattle.tui_print.proofs.states.emit_states.Given as goal

abbrev pub invariant-items : goal.invariant-items
invariant-items g l =
    let k = g.K.Sink in
    (done : List ℕ) × (state_lines 0 l.scene ≡ done ++ state_lines l.number (drop l.number l.scene))
    × Prints (k.observed l.fn.sink) (k.observed l.sink) l.fn.print l.print done
