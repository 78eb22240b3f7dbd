use Rattle.std.proofs.Common.{refl, sym, ◌∙◌}
use Rattle.tui_lists.proofs.scrollbar.orientation.ScrollbarOrientation.double_set.Goals as goal

pub returns-then-is_vertical : goal.returns-then-is_vertical
unfolding lib.Utf8.encode
returns-then-is_vertical c = rw (sym c.is_vertical.ensures ∙ c.if-is_vertical.true) refl

pub returns-else-is_vertical : goal.returns-else-is_vertical
unfolding lib.Utf8.encode
returns-else-is_vertical c = rw (sym c.is_vertical.ensures ∙ c.if-is_vertical.false) refl
