use Rattle.std.proofs.Common.{◌≡◌, rules, false, not, sym, ap, ◌∙◌}
use Rattle.tui_terminal.proofs.SameRows.{other_symbol}
use Rattle.tui_terminal.proofs.narrow.is_changed.Goals as goal

pub returns-then-not-is_same_symbol : goal.returns-then-not-is_same_symbol
returns-then-not-is_same_symbol c =
    let off : c.is_same_symbol.result ≡ false = search rules in
    sym (ap not (other_symbol c.args.old.now c.args.new.now (sym c.is_same_symbol.ensures ∙ off)))
