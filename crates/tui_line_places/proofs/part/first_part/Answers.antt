use Rattle.std.proofs.Common.{List, ℕ, ◌++◌, refl, sym, ap₂, ◌∙◌, subst}
use Rattle.std.specs.Str.{IsUtf8}
use Rattle.std.proofs.lemmas.List.{take-append-drop}
use Rattle.std.proofs.lemmas.Str.{IsUtf8-take}
use Rattle.tui_line_places.proofs.SeamLines.{cut_lines}
use Rattle.tui_line_places.proofs.part.first_part.Goals as goal

pub returns-then-has_more_lines-clause-same : goal.returns-then-has_more_lines-clause-same
returns-then-has_more_lines-clause-same c =
    let whole = sym (take-append-drop c.part_end-end.result c.args.text.now)
    ∙ sym (ap₂ (λ (x : List ℕ) (y : List ℕ). x ++ y) c.in-Some.ensures.front c.in-Some.ensures.back) in
    let part_utf8 = subst IsUtf8 (sym c.in-Some.ensures.front)
    (IsUtf8-take c.args.text.now c.part_end-end.result c.utf8.text (c.in-Some.ensures.variant.0 refl)) in
    cut_lines c.args.lines.width c.args.lines.trim c.args.count c.part_end-end.result c.args.text.now c.in-Some.part.now c.in-Some.field-0-1.now c.utf8.text
    part_utf8 c.in-Some.ensures.front whole (c.is_cut.ensures c.if-is_cut.true) (c.has_more_lines.ensures c.if-has_more_lines.true)

pub returns-then-has_more_lines-clause-part : goal.returns-then-has_more_lines-clause-part
returns-then-has_more_lines-clause-part c =
    let whole = sym (take-append-drop c.part_end-end.result c.args.text.now)
    ∙ sym (ap₂ (λ (x : List ℕ) (y : List ℕ). x ++ y) c.in-Some.ensures.front c.in-Some.ensures.back) in
    (c.in-Some.field-0-1.now, whole)
