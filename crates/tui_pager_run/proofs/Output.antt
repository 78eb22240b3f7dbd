-- An output is unique.
use Rattle.std.proofs.Common.{◌≡◌, ℕ, List, [], ◌++◌, sym, ap, ◌∙◌}
use Rattle.tui_print.specs.Laws.{PrintIsUnique}
use Rattle.tui_pager_lib.specs.Laws.{ScreenIsUnique}
use Rattle.tui_pager_run.specs.Laws.{OutputIsUnique}
use Rattle.tui_pager_run.specs.Printed.{key_lines}
use Rattle.tui_pager_run.specs.States.{first_of, last_of, states_of}

pub one_output : PrintIsUnique → ScreenIsUnique → OutputIsUnique
one_output prints screens input text other a b =
    let same = screens (last_of input) a.screen b.screen a.drawn b.drawn in
    let print = prints a.screen [] in
    let again = rw same at b.is_print in
    let alike : b.print ≡ a.print = print.2 b.print again ∙ sym (print.2 a.print a.is_print) in
    b.parts ∙ (ap (λ (p : List ℕ). key_lines 0 (states_of (first_of input) input.calls) ++ p) alike ∙ sym a.parts)
