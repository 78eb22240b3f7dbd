use Rattle.std.proofs.Common.{◌+◌, ◌≤◌, ◌⊎◌, inl, inr, Contains, length, refl, arith, rules}
use Rattle.tui_app.specs.Memory.{next_read_len}
use Rattle.tui_app.proofs.memory_terminal.MemTerminalTerminal.wait.Goals as goal
use Rattle.tui_app.proofs.memory_terminal.MemTerminalTerminal.wait.Goals.{then-contains-via-then-contains, then-contains-via-else-contains+then-room-count}

pub returns-then-contains-clause-listed : goal.returns-then-contains-clause-listed
returns-then-contains-clause-listed c =
    let cause : Contains c.args.self.now.failing c.saturating_add-self-inside.result ⊎ (c.args.self.now.capacity ≤ length c.args.self.now.trace + next_read_len c.args.self.now) =
    elim c.then-contains.branch [
      | then-contains-via-then-contains w ↦ inl (search rules)
      | then-contains-via-else-contains+then-room-count w ↦ inr (search (rules, arith))
    ] in
    (λ fails. cause, λ fails. refl)
