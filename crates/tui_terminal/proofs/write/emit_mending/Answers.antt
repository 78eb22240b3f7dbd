use Rattle.std.proofs.Common.{◌≡◌, [], rules, true, false, sym, ◌∙◌, ◌&&◌}
use Rattle.std.specs.Prelude.{nat_lt}
use Rattle.tui_io.proofs.Printing.{Prints-none}
use Rattle.tui_terminal_model.specs.Calls.{grave, mend}
use Rattle.tui_terminal_model.specs.Symbols.{has_known_width}
use Rattle.tui_terminal.proofs.Texts.{Prints-text, first_of, second_of}
use Rattle.tui_terminal.proofs.write.emit_mending.Goals as goal

pub returns-then-is_mended : goal.returns-then-is_mended
returns-then-is_mended g c =
    let a = c.args in
    let on : c.is_mended.result ≡ true = search rules in
    Prints-text (first_of (has_known_width a.widths grave && (nat_lt 0 a.area.width && nat_lt 0 a.area.height)) (mend a.area) [] (sym c.is_mended.ensures ∙ on)) c.emit_mend.ensures

pub returns-else-is_mended : goal.returns-else-is_mended
returns-else-is_mended g c =
    let a = c.args in
    let off : c.is_mended.result ≡ false = search rules in
    Prints-text (second_of (has_known_width a.widths grave && (nat_lt 0 a.area.width && nat_lt 0 a.area.height)) (mend a.area) [] (sym c.is_mended.ensures ∙ off)) (Prints-none _ _)
