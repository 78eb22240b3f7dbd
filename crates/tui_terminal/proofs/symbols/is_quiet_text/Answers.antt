use Rattle.std.proofs.Common.{◌≡◌, ◌+◌, ◌<◌, ◌≤◌, ◌==◌, get_or, length, drop, rules, false, sym, ap, ◌∙◌, arith}
use Rattle.std.proofs.lemmas.Bool.{and_left}
use Rattle.tui_terminal_model.specs.Symbols.{is_quiet, is_quiet_byte, is_quiet_from}
use Rattle.tui_terminal.proofs.SymbolLemmas.{quiet_end, quiet_step}
use Rattle.tui_terminal.proofs.symbols.is_quiet_text.Goals as goal

pub returns-then-not-is_quiet_byte : goal.returns-then-not-is_quiet_byte
unfolding is_quiet
returns-then-not-is_quiet_byte c =
    let l = c.bytes in
    let bytes = c.as_bytes-bytes.result.now in
    let b = get_or bytes l.i 0 in
    let lt : l.i < length bytes = search (rules, arith) in
    let off : c.is_quiet_byte.result ≡ false = search rules in
    sym (quiet_step l.after bytes l.i lt ∙ and_left (is_quiet_byte l.after b) (is_quiet_from (b == 0xC2) (drop (l.i + 1) bytes)) (sym c.is_quiet_byte.ensures ∙ off))
    ∙ (l.invariant ∙ ap (is_quiet_from false) c.as_bytes-bytes.ensures.value)

pub returns : goal.returns
unfolding is_quiet
returns c =
    let l = c.bytes in
    let bytes = c.as_bytes-bytes.result.now in
    let past : length bytes ≤ l.i = search (rules, arith) in
    sym (quiet_end l.after bytes l.i past) ∙ (l.invariant ∙ ap (is_quiet_from false) c.as_bytes-bytes.ensures.value)
