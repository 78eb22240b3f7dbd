use Rattle.std.proofs.Common.{◌≡◌, rules, true, sym, ap, ◌∙◌}
use Rattle.tui_terminal_model.specs.Symbols.{is_ascii}
use Rattle.tui_terminal.proofs.FitRows.{byte_fit}
use Rattle.tui_terminal.proofs.fitting.is_fit.Goals as goal

pub returns-then-is_ascii : goal.returns-then-is_ascii
returns-then-is_ascii c =
    let on : c.is_ascii.result ≡ true = search rules in
    on ∙ sym (byte_fit c.args.widths c.args.room c.args.cell.now c.requires (ap is_ascii (sym c.symbol-symbol.ensures.is) ∙ (sym c.is_ascii.ensures ∙ on)))
