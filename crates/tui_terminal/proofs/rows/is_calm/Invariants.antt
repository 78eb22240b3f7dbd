use Rattle.std.proofs.Common.{◌≡◌, ℕ, ◌+◌, drop}
use Rattle.std.specs.List.{list_all}
use Rattle.tui_terminal_model.specs.Pieces.{shown_row}
use Rattle.tui_terminal_model.specs.Symbols.{has_known_width}
use Rattle.tui_terminal_laws.specs.declared.wanted.Wanted.TheVariants.{Changed}
use Rattle.tui_terminal_laws.specs.Sent.{row_shown, sent}
use Rattle.tui_terminal.specs.Seeing.{cover_of}
use Rattle.tui_terminal.proofs.rows.is_calm.Given as goal

-- the remaining cells decide, in both directions
abbrev pub invariant-columns : goal.invariant-columns
invariant-columns l =
    let widths = l.widths in
    let olds = shown_row widths (cover_of l.was) (drop l.column l.old) in
    let news = shown_row widths (cover_of l.is) (drop l.column l.new) in
    (left : ℕ) →
    (list_all (λ p. has_known_width widths p.cell.symbol) (sent widths Changed (left + l.column) olds news)
    ≡ list_all (λ p. has_known_width widths p.cell.symbol) (sent widths Changed left (row_shown widths l.old) (row_shown widths l.new)))
    × (list_all (λ p. has_known_width widths p.cell.symbol) (sent widths Changed (left + l.column) news olds)
    ≡ list_all (λ p. has_known_width widths p.cell.symbol) (sent widths Changed left (row_shown widths l.new) (row_shown widths l.old)))
