use Rattle.std.proofs.Common.{◌≤◌, ◌-◌, arith, length, take, drop}
use Rattle.std.proofs.lemmas.List.{take_rest}
use Rattle.std.proofs.lemmas.List.Elements.{recursion_from_All}
use Rattle.tui_para.specs.Mark.{mark_of, mark_rule}
use Rattle.tui_para.proofs.Mapped.{next_placed, next_moves}
use Rattle.tui_para.proofs.wrapping.breaking.next_line.Goals as goal

pub returns-clause-line : goal.returns-clause-line
returns-clause-line c = λ graphemes view.
    let ms = c.args.marks.now in
    let start = c.start_of-start.result in
    let ys = take (length ms - start) (drop start ms) in
    let len = c.line_at-line.result.len in
    next_placed mark_of (mark_rule c.args.width c.args.wrap) graphemes ms ys (take (length ys - len) (drop len ys)) start len c.line_at-line.result.room c.dropped-blanks.result
    view c.start_of-start.ensures.len (take_rest ms start) c.line_at-line.ensures.len c.line_at-line.ensures.room (take_rest ys len) c.dropped-blanks.ensures.len

pub returns-clause-moves : goal.returns-clause-moves
returns-clause-moves c = λ some.
    let ms = c.args.marks.now in
    let start = c.start_of-start.result in
    let h = next_moves (mark_rule c.args.width c.args.wrap) ms (take (length ms - start) (drop start ms)) start c.line_at-line.result.len
    (recursion_from_All (λ m. m.width ≤ c.args.width) ms c.requires) (take_rest ms start) c.line_at-line.ensures.len some in
    omega arith
