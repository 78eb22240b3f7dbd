use Rattle.std.proofs.Common.{sym}
use Rattle.tui_clusters.proofs.Widths.{ideograph_blank, letter_blank}
use Rattle.tui_clusters.proofs.blank.looked_up_blank.Goals as goal

pub returns-then-is_ideograph : goal.returns-then-is_ideograph
returns-then-is_ideograph c = sym (ideograph_blank c.args.text.now (c.is_ideograph.ensures c.if-is_ideograph.true))

pub returns-then-is_letter : goal.returns-then-is_letter
returns-then-is_letter c = sym (letter_blank c.args.text.now (c.is_letter.ensures.0 c.if-is_letter.true))
