-- Symbols of uncertain width that appear or disappear.
use Rattle.std.specs.Prelude.{Bool, not, ◌&&◌}
use Rattle.tui_terminal.specs.declared.seeing.Seen.{Seen}
use Rattle.tui_terminal.specs.Seeing.{look_in, shown_in}
use Rattle.tui_terminal.specs.Sent.{shows_same}

-- whether a symbol of uncertain width shows that did not show so before
abbrev pub is_new_uncertain : Seen → Seen → Bool
is_new_uncertain old new = (new.shows && not new.known_width) && not (shows_same (shown_in old) (look_in new))
