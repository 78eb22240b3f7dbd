use Rattle.std.proofs.Common.{sym}
use Rattle.tui_clusters.proofs.Widths.{ideograph_width, letter_width, sign_width}
use Rattle.tui_clusters.proofs.width.looked_up_width.Goals as goal

pub returns-then-is_ideograph : goal.returns-then-is_ideograph
returns-then-is_ideograph c = sym (ideograph_width c.args.text.now (c.is_ideograph.ensures c.if-is_ideograph.true))

pub returns-then-is_letter : goal.returns-then-is_letter
returns-then-is_letter c = sym (letter_width c.args.text.now (c.is_letter.ensures.0 c.if-is_letter.true))

pub returns-then-is_sign : goal.returns-then-is_sign
returns-then-is_sign c = sym (sign_width c.args.text.now (c.is_sign.ensures c.if-is_sign.true))
