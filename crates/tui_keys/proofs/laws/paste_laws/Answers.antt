use Rattle.tui_keys.proofs.MarkReads.{marks_have_bytes}
use Rattle.tui_keys.proofs.Marks.{only_begin_begins, only_end_ends, outside_is_outside}
use Rattle.tui_keys.proofs.Pastes.{paste_is_itself, pasted_is_pasted}
use Rattle.tui_keys.proofs.laws.paste_laws.Goals as goal

pub returns-clause-pasted : goal.returns-clause-pasted
returns-clause-pasted c = pasted_is_pasted

pub returns-clause-ends : goal.returns-clause-ends
returns-clause-ends c = only_end_ends

pub returns-clause-itself : goal.returns-clause-itself
returns-clause-itself c = paste_is_itself

pub returns-clause-outside : goal.returns-clause-outside
returns-clause-outside c = outside_is_outside

pub returns-clause-begins : goal.returns-clause-begins
returns-clause-begins c = only_begin_begins

pub returns-clause-bytes : goal.returns-clause-bytes
returns-clause-bytes c = marks_have_bytes
