use Rattle.std.proofs.Common.{◌≡◌, rules, true, sym, ◌∙◌}
use Rattle.tui_terminal.proofs.Looks.{byte_known_width}
use Rattle.tui_terminal.proofs.symbols.has_known_width.Goals as goal

pub returns-then-is_ascii : goal.returns-then-is_ascii
returns-then-is_ascii c =
    let on : c.is_ascii.result ≡ true = search rules in
    on ∙ sym (byte_known_width c.args.widths c.args.symbol.now (sym c.is_ascii.ensures ∙ on))
