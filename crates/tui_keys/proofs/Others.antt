-- What other terminals send, by computation.
use Rattle.std.proofs.Common.{refl}
use Rattle.tui_keys.specs.Events.{events_of, keys_after}
use Rattle.tui_keys.specs.Laws.{OthersAreRead}
use Rattle.tui_keys.specs.Steps.{after_bracket, after_escape, after_ss3, ground, console_key, ends_answer, in_answer, in_console, in_sequence, letter, marked, modifiers_of, moved, sequence_of, size_of, stepped, tilde, with_digit, with_next}

pub others : OthersAreRead
unfolding events_of keys_after stepped ground after_bracket after_escape after_ss3 console_key ends_answer in_answer in_console in_sequence letter marked modifiers_of moved sequence_of size_of tilde with_digit with_next
others = record {
  newline = record { events = refl; pending = refl };
  control_h = record { events = refl; pending = refl };
  up_ss3 = record { events = refl; pending = refl };
  home_ss3 = record { events = refl; pending = refl };
  home_1 = record { events = refl; pending = refl };
  end_4 = record { events = refl; pending = refl };
  home_7 = record { events = refl; pending = refl };
  end_8 = record { events = refl; pending = refl };
  function_1 = record { events = refl; pending = refl };
  console_1 = record { events = refl; pending = refl };
  console_5 = record { events = refl; pending = refl };
  meta_up = record { events = refl; pending = refl };
  control_delete = record { events = refl; pending = refl };
  no_rows = record { events = refl; pending = refl };
  many_columns = record { events = refl; pending = refl };
  cursor_place = record { events = refl; pending = refl };
  private = record { events = refl; pending = refl };
  stray_end = record { events = refl; pending = refl };
  begin_of_two = record { events = refl; pending = refl };
  color_answer = record { events = refl; pending = refl };
  title_answer = record { events = refl; pending = refl };
  status_answer = record { events = refl; pending = refl };
}
