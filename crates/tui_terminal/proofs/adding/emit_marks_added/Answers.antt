use Rattle.std.proofs.Common.{false, sym, ap, ◌∙◌}
use Rattle.std.proofs.lemmas.List.{append-nil}
use Rattle.tui_io.proofs.Printing.{Prints-then}
use Rattle.tui_terminal.specs.Adding.{begun_after, is_added, settings_text}
use Rattle.tui_terminal.specs.Marks.{mark_if}
use Rattle.tui_terminal.proofs.AddedTexts.{part_begun, part_text}
use Rattle.tui_terminal.proofs.Texts.{Prints-text}
use Rattle.tui_terminal.proofs.adding.emit_marks_added.Goals as goal

pub returns-clause-next : goal.returns-clause-next
returns-clause-next g c =
    part_begun false c.emit_mark_if-bold.result c.emit_mark_if.result (mark_if 0 (is_added c.args.was c.args.is 1)) _ (rw c.is_added.ensures at c.emit_mark_if-bold.ensures.next)
    (part_begun c.emit_mark_if-bold.result c.emit_mark_if-dim.result c.emit_mark_if.result (mark_if 1 (is_added c.args.was c.args.is 2)) _ (rw c.is_added-2.ensures at c.emit_mark_if-dim.ensures.next)
    (part_begun c.emit_mark_if-dim.result c.emit_mark_if-italic.result c.emit_mark_if.result (mark_if 2 (is_added c.args.was c.args.is 4)) _ (rw c.is_added-3.ensures at c.emit_mark_if-italic.ensures.next)
    (part_begun c.emit_mark_if-italic.result c.emit_mark_if-underlined.result c.emit_mark_if.result (mark_if 3 (is_added c.args.was c.args.is 8)) _ (rw c.is_added-4.ensures at c.emit_mark_if-underlined.ensures.next)
    (part_begun c.emit_mark_if-underlined.result c.emit_mark_if-slow.result c.emit_mark_if.result (mark_if 4 (is_added c.args.was c.args.is 16)) _ (rw c.is_added-5.ensures at c.emit_mark_if-slow.ensures.next)
    (part_begun c.emit_mark_if-slow.result c.emit_mark_if-rapid.result c.emit_mark_if.result (mark_if 5 (is_added c.args.was c.args.is 32)) _ (rw c.is_added-6.ensures at c.emit_mark_if-rapid.ensures.next)
    (part_begun c.emit_mark_if-rapid.result c.emit_mark_if-reversed.result c.emit_mark_if.result (mark_if 6 (is_added c.args.was c.args.is 64)) _ (rw c.is_added-7.ensures at c.emit_mark_if-reversed.ensures.next)
    (part_begun c.emit_mark_if-reversed.result c.emit_mark_if-hidden.result c.emit_mark_if.result (mark_if 7 (is_added c.args.was c.args.is 128)) _ (rw c.is_added-8.ensures at c.emit_mark_if-hidden.ensures.next)
    ((rw c.is_added-9.ensures at c.emit_mark_if.ensures.next) ∙ ap (begun_after c.emit_mark_if-hidden.result) (sym (append-nil (mark_if 8 (is_added c.args.was c.args.is 256))))))))))))

pub returns-clause-emitted : goal.returns-clause-emitted
returns-clause-emitted g c =
    Prints-text (part_text false c.emit_mark_if-bold.result (mark_if 0 (is_added c.args.was c.args.is 1)) _ _ (rw c.is_added.ensures at c.emit_mark_if-bold.ensures.next)
    (part_text c.emit_mark_if-bold.result c.emit_mark_if-dim.result (mark_if 1 (is_added c.args.was c.args.is 2)) _ _ (rw c.is_added-2.ensures at c.emit_mark_if-dim.ensures.next)
    (part_text c.emit_mark_if-dim.result c.emit_mark_if-italic.result (mark_if 2 (is_added c.args.was c.args.is 4)) _ _ (rw c.is_added-3.ensures at c.emit_mark_if-italic.ensures.next)
    (part_text c.emit_mark_if-italic.result c.emit_mark_if-underlined.result (mark_if 3 (is_added c.args.was c.args.is 8)) _ _ (rw c.is_added-4.ensures at c.emit_mark_if-underlined.ensures.next)
    (part_text c.emit_mark_if-underlined.result c.emit_mark_if-slow.result (mark_if 4 (is_added c.args.was c.args.is 16)) _ _ (rw c.is_added-5.ensures at c.emit_mark_if-slow.ensures.next)
    (part_text c.emit_mark_if-slow.result c.emit_mark_if-rapid.result (mark_if 5 (is_added c.args.was c.args.is 32)) _ _ (rw c.is_added-6.ensures at c.emit_mark_if-rapid.ensures.next)
    (part_text c.emit_mark_if-rapid.result c.emit_mark_if-reversed.result (mark_if 6 (is_added c.args.was c.args.is 64)) _ _ (rw c.is_added-7.ensures at c.emit_mark_if-reversed.ensures.next)
    (part_text c.emit_mark_if-reversed.result c.emit_mark_if-hidden.result (mark_if 7 (is_added c.args.was c.args.is 128)) _ _ (rw c.is_added-8.ensures at c.emit_mark_if-hidden.ensures.next)
    (ap (settings_text c.emit_mark_if-hidden.result) (sym (append-nil (mark_if 8 (is_added c.args.was c.args.is 256)))))))))))))
    (Prints-then (rw c.is_added.ensures at c.emit_mark_if-bold.ensures.emitted)
    (Prints-then (rw c.is_added-2.ensures at c.emit_mark_if-dim.ensures.emitted)
    (Prints-then (rw c.is_added-3.ensures at c.emit_mark_if-italic.ensures.emitted)
    (Prints-then (rw c.is_added-4.ensures at c.emit_mark_if-underlined.ensures.emitted)
    (Prints-then (rw c.is_added-5.ensures at c.emit_mark_if-slow.ensures.emitted)
    (Prints-then (rw c.is_added-6.ensures at c.emit_mark_if-rapid.ensures.emitted)
    (Prints-then (rw c.is_added-7.ensures at c.emit_mark_if-reversed.ensures.emitted)
    (Prints-then (rw c.is_added-8.ensures at c.emit_mark_if-hidden.ensures.emitted)
    (rw c.is_added-9.ensures at c.emit_mark_if.ensures.emitted)))))))))
