use Rattle.std.proofs.Common.{List, ℕ, ◌++◌, take, true, sym, ap, ap₂, ◌∙◌, subst}
use Rattle.std.proofs.lemmas.List.{take-append-drop}
use Rattle.tui_para.specs.Hyphens.{at_blanks}
use Rattle.tui_pages_lib.specs.Shown.{AreTextLines}
use Rattle.tui_pages_lib.proofs.TextLines.{some_line, text_lines_shown}
use Rattle.tui_pages_lib.proofs.shown.visible_prefix.Goals as goal

pub returns-in-Some : goal.returns-in-Some
returns-in-Some c =
    let text = c.args.text.now in
    let whole = sym (take-append-drop c.args.near text)
    ∙ sym (ap₂ (λ (x : List ℕ) (y : List ℕ). x ++ y) c.in-Some.ensures.front c.in-Some.ensures.back) in
    let are = subst (AreTextLines c.args.lines) (ap (take c.args.near) c.as_bytes.ensures.value ∙ sym c.in-Some.ensures.front) (c.are_text_lines.ensures c.if-are_text_lines.true) in
    text_lines_shown c.args.width c.args.lines text c.in-Some.part.now c.in-Some.field-0-1.now
    (λ glyphs. some_line c.args.width (at_blanks true) glyphs _ (c.wraps_exactly_once.ensures c.args.width (at_blanks true) glyphs c.requires).meets)
    whole are
