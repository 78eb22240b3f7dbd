use Rattle.std.proofs.Common.{List, ap, sym, ◌∙◌, map, sum_by}
use Rattle.std.proofs.lemmas.List.{take_all}
use Rattle.tui_para.specs.Counting.{wrapped_len}
use Rattle.tui_text.specs.Line.{LineData, line_data}
use Rattle.tui_text.specs.Text.{text_data}
use Rattle.tui_clusters.specs.Width.{saturated}
use Rattle.tui_para.proofs.TextLengths.{length-shown}
use Rattle.tui_para.proofs.counting.wrapped_count.Goals as goal

pub returns-clause-sum : goal.returns-clause-sum
returns-clause-sum c =
    let count = wrapped_len c.args.width c.args.wrap c.text_style-base.result in
    let read = take_all c.loop-line.line-index c.lines-line-items.result.now c.loop-line-test.false in
    let all = ap (map line_data) read ∙ c.lines-line-items.ensures in
    c.loop-line.invariant ∙ (ap (λ (lines : List LineData). saturated (sum_by count lines)) all
    ∙ ap (λ base. saturated (sum_by (wrapped_len c.args.width c.args.wrap base) (text_data c.args.text.now).lines)) c.text_style-base.ensures)

pub returns-clause-lines : goal.returns-clause-lines
returns-clause-lines c = λ alignment lines h.
    let text = text_data c.args.text.now in
    returns-clause-sum c ∙ ap saturated (sym (length-shown c.args.width c.args.wrap alignment text.style text.lines lines h))
