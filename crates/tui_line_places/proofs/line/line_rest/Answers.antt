use Rattle.std.proofs.Common.{ℕ, List, sym, subst}
use Rattle.tui_line_places.specs.Places.{GoesOnInLine, shown_in}
use Rattle.tui_line_places.specs.Rests.{FirstThen, cluster_rule}
use Rattle.tui_line_places.proofs.InLine.{begun, fits, left_on, line_ends, line_goes, line_over, nothing_more}
use Rattle.tui_line_places.proofs.line.line_rest.Goals as goal

pub graphemes-init : goal.graphemes-init
graphemes-init c = begun c.args.lines.width c.args.lines.trim c.args.text.now c.new-counter.result c.utf8.text c.new-counter.ensures

pub returns-in-Some-clause-goes_on : goal.returns-in-Some-clause-goes_on
returns-in-Some-clause-goes_on c =
    let g = c.in-Grapheme.grapheme in
    subst (GoesOnInLine c.args.text.now) (sym c.left_from.ensures)
    (left_on c.args.lines.width c.args.lines.trim c.args.text.now c.graphemes.word.now c.graphemes.rest.now c.graphemes.counter c.graphemes.invariant
    g.after.now c.word_from-word.result.now g.width g.blank c.in-Grapheme.ensures c.word_from-word.ensures c.in-Some.end)

pub returns-in-Some-clause-first : goal.returns-in-Some-clause-first
returns-in-Some-clause-first c =
    let w = c.args.lines.width in
    let trim = c.args.lines.trim in
    let text = c.args.text.now in
    let g = c.in-Grapheme.grapheme in
    subst (λ (t : List ℕ). FirstThen (cluster_rule w trim) (shown_in w text) (shown_in w t)) (sym c.left_from.ensures)
    (line_ends w trim text c.graphemes.word.now c.graphemes.rest.now c.graphemes.counter c.graphemes.invariant
    g.after.now c.word_from-word.result.now g.width g.blank c.in-Grapheme.ensures c.word_from-word.ensures c.in-Some.end
    (c.in-Some.ensures.end (fits w trim text c.graphemes.word.now c.graphemes.rest.now c.graphemes.counter c.graphemes.invariant)))

pub graphemes-preserved : goal.graphemes-preserved
graphemes-preserved c =
    let g = c.in-Grapheme.grapheme in
    let fit = fits c.args.lines.width c.args.lines.trim c.args.text.now c.graphemes.word.now c.graphemes.rest.now c.graphemes.counter c.graphemes.invariant in
    line_goes c.args.lines.width c.args.lines.trim c.args.text.now c.graphemes.word.now c.graphemes.rest.now c.graphemes.counter c.graphemes.invariant
    g.after.now c.word_from-word.result.now g.width g.blank c.in-Grapheme.ensures c.word_from-word.ensures
    c.read_in_line.result c.read_in_line.new.self c.in_default-read_in_line.not-Some (c.read_in_line.ensures.end fit) (c.read_in_line.ensures.new fit)

pub returns-clause-first : goal.returns-clause-first
returns-clause-first c =
    line_over c.args.lines.width c.args.lines.trim c.args.text.now c.graphemes.word.now c.graphemes.rest.now c.graphemes.counter c.graphemes.invariant
    (nothing_more c.args.lines.width c.graphemes.rest.now c.next_grapheme.result c.in_default.not-Grapheme c.next_grapheme.ensures)
