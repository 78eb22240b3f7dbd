use Rattle.std.proofs.Common.{◌≡◌, ℕ, List, ◌++◌, drop}
use Rattle.tui_io.specs.Prints.{Prints}
use Rattle.tui_pager_run.specs.Printed.{key_lines}
use Rattle.tui_pager_run.proofs.printing.add_states.Given as goal

abbrev pub invariant-states : goal.invariant-states
invariant-states g l =
    let k = g.K.Sink in
    (done : List ℕ) × (key_lines 0 l.states ≡ done ++ key_lines l.number (drop l.number l.states))
    × Prints (k.observed l.fn.sink) (k.observed l.sink) l.fn.print l.print done
