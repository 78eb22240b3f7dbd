use Rattle.std.proofs.Common.{refl}
use Rattle.tui_schema.proofs.items.tabs.divider_of.Goals as goal

pub returns-in-None : goal.returns-in-None
unfolding lib.Utf8.encode
returns-in-None c = rw (c.raw-in-None.ensures, c.in-None.is) refl
