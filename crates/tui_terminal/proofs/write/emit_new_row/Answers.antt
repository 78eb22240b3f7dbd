use Rattle.std.proofs.Common.{◌≡◌, [], flat_map, get_or, length, rules, true, ap, arith}
use Rattle.tui_io.proofs.Printing.{Prints-none}
use Rattle.tui_terminal_model.specs.Encoding.{encoding}
use Rattle.tui_terminal_laws.specs.Sending.{nothing_known, row_changes, send}
use Rattle.tui_terminal.proofs.SameRows.{same_text}
use Rattle.tui_terminal.proofs.Texts.{Prints-text}
use Rattle.tui_terminal.proofs.write.emit_new_row.Goals as goal

pub emit_changes-requires : goal.emit_changes-requires
emit_changes-requires g c =
    let was = ap length c.row_at.ensures in
    let is = ap length c.row_at-then-not-is_row_same.ensures in
    (omega (arith, c.requires.2, was, is), omega (arith, c.requires.3, is), c.requires.4)

pub returns-then-not-is_row_same : goal.returns-then-not-is_row_same
returns-then-not-is_row_same g c =
    let a = c.args in
    Prints-text (λ j. flat_map encoding (send a.target.output a.target.y nothing_known (row_changes a.target.output.widths a.target.left (c.row_at.ensures j) (c.row_at-then-not-is_row_same.ensures j)))) c.emit_changes.ensures

pub returns-else-not-is_row_same : goal.returns-else-not-is_row_same
returns-else-not-is_row_same g c =
    let a = c.args in
    let on : c.is_row_same.result ≡ true = search rules in
    Prints-text (same_text a.target.output a.target.y a.target.left (get_or a.change.old.now.rows a.change.row []) (get_or a.change.new.now.rows a.change.row []) (c.is_row_same.ensures.0 on)) (Prints-none _ _)
