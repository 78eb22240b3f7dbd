use Rattle.std.proofs.Common.{◌<◌, true, arith, subst, sym}
use Rattle.tui_text.specs.Text.{raw_text, text_data}
use Rattle.tui_text.specs.declared.alignment.Alignment.TheVariants.{Left}
use Rattle.tui_para.specs.Hyphens.{at_blanks}
use Rattle.tui_para.specs.WrappedText.{WrappedText}
use Rattle.tui_pages_lib.proofs.Measured.{counted}
use Rattle.tui_pages_lib.proofs.measuring.cell_height.Goals as goal

pub returns : goal.returns
returns c =
    let width = c.args.width in
    let way = at_blanks true in
    let text = raw_text c.args.cell.now in
    let some : 0 < width = omega (arith, c.if-width-eq0.false) in
    counted width c.wrapped_count.result c.args.cell.now some (c.text_wraps_exactly_once.ensures width way Left text some)
    (λ lines h. c.wrapped_count.ensures.lines Left lines
    (subst (λ way. WrappedText width way Left (text_data c.in_ok-text.text) lines) (sym c.cell_wrap.ensures)
    (subst (λ text. WrappedText width way Left text lines) (sym c.in_ok-text.ensures) h)))
