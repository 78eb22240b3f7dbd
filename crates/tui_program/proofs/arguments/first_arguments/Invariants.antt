use Rattle.std.proofs.Common.{◌≡◌, drop, take, ◌-◌, ◌++◌}
use Rattle.std.specs.Vec.Iter.{into_iter_items}
use Rattle.arrayvec.specs.ArrayVec.{array_vec_len}
use Rattle.tui_program.proofs.arguments.first_arguments.Given as goal

abbrev pub invariant-loop-place : goal.invariant-loop-place
invariant-loop-place l =
    (array_vec_len l.arguments ≡ l.place) × (l.arguments.items ++ take (4 - l.place) (into_iter_items l.rest) ≡ take 4 (drop 1 (into_iter_items l.fn.all)))
