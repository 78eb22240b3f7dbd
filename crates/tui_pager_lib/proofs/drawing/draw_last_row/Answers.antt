use Rattle.std.proofs.Common.{arith}
use Rattle.tui_pager_lib.proofs.Placing.{place_small}
use Rattle.tui_pager_lib.proofs.drawing.draw_last_row.Goals as goal

pub entry_number-number-requires : goal.entry_number-number-requires
entry_number-number-requires c = place_small c.args.count c.args.selected (omega (arith, c.ranges.count)) c.requires.place
