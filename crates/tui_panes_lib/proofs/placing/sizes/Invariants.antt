use Rattle.std.proofs.Common.{◌≡◌, ◌++◌, drop}
use Rattle.tui_panes_lib.specs.Pane.{sizes_data}
use Rattle.tui_panes_lib.proofs.placing.sizes.Given as goal

abbrev pub invariant-loop-part : goal.invariant-loop-part
invariant-loop-part l = l.sizes.items ++ sizes_data (drop l.part-index l.parts) ≡ sizes_data l.parts
