use Rattle.std.proofs.Common.{◌≡◌}
use Rattle.tui_input.specs.State.{empty_input, typed_all}
use Rattle.tui_input.proofs.state.InputState.with_text.Given as goal

-- the characters so far are typed
abbrev pub invariant-loop-c : goal.invariant-loop-c
invariant-loop-c l = l.state ≡ typed_all (empty_input l.most) l.yielded
