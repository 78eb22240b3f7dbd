use Rattle.std.proofs.Common.{◌≡◌, ◌&&◌, Bool, rules, true, false, sym, ap, ◌∙◌}
use Rattle.std.specs.Prelude.{nat_le}
use Rattle.tui_terminal_model.specs.Symbols.{is_ended, is_led, is_quiet}
use Rattle.tui_terminal_model.specs.Terminal.{reach}
use Rattle.tui_terminal.proofs.SymbolLemmas.{sendable_parts}
use Rattle.tui_terminal.proofs.symbols.is_sendable.Goals as goal

pub returns-then-is_allowed : goal.returns-then-is_allowed
returns-then-is_allowed c =
    let a = c.args in
    let s = a.symbol.now in
    let fits = nat_le a.columns a.room in
    let on : c.is_allowed.result ≡ true = search rules in
    sym (ap (λ (b : Bool). b && fits) (sym c.is_allowed.ensures ∙ on))
    ∙ sendable_parts (is_quiet s) fits a.known_width ((is_led s && is_ended s) && nat_le (reach s) a.room) c.requires.1

pub returns-else-is_allowed : goal.returns-else-is_allowed
returns-else-is_allowed c =
    let a = c.args in
    let s = a.symbol.now in
    let fits = nat_le a.columns a.room in
    let off : c.is_allowed.result ≡ false = search rules in
    off
    ∙ sym (ap (λ (b : Bool). b && fits) (sym c.is_allowed.ensures ∙ off))
    ∙ sendable_parts (is_quiet s) fits a.known_width ((is_led s && is_ended s) && nat_le (reach s) a.room) c.requires.1
