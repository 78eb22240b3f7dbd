use Rattle.std.proofs.Common.{◌≡◌, rules, true, sym, ◌∙◌}
use Rattle.tui_terminal.proofs.SymbolLemmas.{ideograph_among}
use Rattle.tui_terminal.proofs.symbols.is_three.Goals as goal

pub returns-then-is_within : goal.returns-then-is_within
returns-then-is_within c =
    let on : c.is_within.result ≡ true = search rules in
    on ∙ sym (ideograph_among c.args.code (sym c.is_within.ensures ∙ on))
