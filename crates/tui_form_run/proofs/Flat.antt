-- Answers as JSON are flat, and contain no numbers.
use Rattle.std.proofs.Common.{◌≤◌, List, [], ◌∷◌, arith}
use Rattle.json.specs.Tree.{HasNumbers, MembersHaveNumbers, depth, members_depth}
use Rattle.tui_form_lib.specs.Field.{FieldData, Reply, answer_of, flag_reply, text_reply}
use Rattle.tui_form_run.specs.Answers.{json_of, members_of}

value_numbers : (a : Reply) → HasNumbers (json_of a)
value_numbers (text_reply text) = tt
value_numbers (flag_reply flag) = tt

pub have_numbers : (fields : List FieldData) → MembersHaveNumbers (members_of fields)
have_numbers [] = tt
have_numbers (f ∷ fs) = (value_numbers (answer_of f.value), have_numbers fs)

flat_value : (a : Reply) → depth (json_of a) ≤ 0
flat_value (text_reply text) = omega arith
flat_value (flag_reply flag) = omega arith

pub are_flat : (fields : List FieldData) → members_depth (members_of fields) ≤ 0
are_flat [] = omega arith
are_flat (f ∷ fs) = let first = flat_value (answer_of f.value) in let rest = are_flat fs in omega arith
