use Rattle.tui_para.specs.Counting.{wrapped_len}
use Rattle.tui_text.specs.Text.{text_data}
use Rattle.tui_para.proofs.TextLengths.{fewest_of_text}
use Rattle.tui_para.proofs.paragraph.Paragraph.lines_at.Goals as goal

pub returns-in-Some-clause-wrapped : goal.returns-in-Some-clause-wrapped
returns-in-Some-clause-wrapped c = rw c.in-Some.is (c.wrapped_count.ensures.lines c.args.self.now.alignment)

pub returns-in-Some-clause-fewest : goal.returns-in-Some-clause-fewest
returns-in-Some-clause-fewest c = λ wraps off words spaced.
    let text = text_data c.args.self.now.text in
    let way = c.in-Some.wrap in
    (wrapped_len c.args.width way text.style, fewest_of_text c.args.width way text words (rw c.in-Some.is at off) c.requires spaced, c.wrapped_count.ensures.sum)
