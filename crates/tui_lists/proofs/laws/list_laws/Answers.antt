use Rattle.tui_lists.proofs.ListShown.{items_are_over_styles, selected_is_shown, redraw_keeps_strokes}
use Rattle.tui_lists.proofs.laws.list_laws.Goals as goal

pub returns : goal.returns
returns c = record { selected = selected_is_shown; again = redraw_keeps_strokes; inside = items_are_over_styles }
