use Rattle.std.proofs.Common.{sym}
use Rattle.tui_clusters.proofs.LoneChars.{no_width, some_width}
use Rattle.tui_clusters.proofs.width.char_columns.Goals as goal

pub returns-in-Some : goal.returns-in-Some
returns-in-Some c = some_width c.args.cjk c.args.c c.in-Some.width c.requires (sym c.in-Some.ensures.value) c.in-Some.ensures.bound

pub returns-in-None : goal.returns-in-None
returns-in-None c = no_width c.args.cjk c.args.c c.requires (sym c.in-None.ensures.value)
