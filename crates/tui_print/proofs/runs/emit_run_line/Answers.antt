use Rattle.std.proofs.Common.{◌≡◌, codes, decimal}
use Rattle.tui_cells.specs.ColorText.{color_text}
use Rattle.tui_io.specs.Texts.{newline}
use Rattle.tui_print.specs.Print.{run_line}
use Rattle.tui_print.specs.Runs.{StyleRun}
use Rattle.tui_print.proofs.Lines.{words_of_line}
use Rattle.tui_print.proofs.runs.emit_run_line.Goals as goal

pub returns : goal.returns
unfolding run_line
returns g c =
    let run : StyleRun = record { start = c.args.start; len = c.args.len; attributes = c.args.attributes } in
    let last = rw c.bits.ensures at c.number-4.ensures.text in
    let line : c.number-4.new.self ≡ run_line c.args.number run =
    words_of_line c.new-line.result c.extend.new.self c.number.new.self c.number-2.new.self c.number-3.new.self c.color.new.self c.color-2.new.self c.number-4.new.self
    (codes "s ") (codes " ") (decimal c.args.number) (decimal c.args.start) (decimal c.args.len) (color_text c.args.attributes.fg) (color_text c.args.attributes.bg)
    (decimal c.args.attributes.modifier.bits) newline
    c.new-line.ensures c.extend.ensures.text c.number.ensures.text c.number-2.ensures.text c.number-3.ensures.text c.color.ensures.text c.color-2.ensures.text last in
    rw (c.bytes.ensures, line) at c.extend-2.ensures
