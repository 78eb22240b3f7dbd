use Rattle.std.proofs.Common.{◌≡◌, ◌-◌, min, rules, true, false, arith, sym, ◌∙◌}
use Rattle.tui_text.proofs.ShownCells.{some_step}
use Rattle.tui_text.specs.Visible.{step_of}
use Rattle.tui_terminal.proofs.Looks.{as_blank, as_it_is, byte_covers, byte_shown, byte_steps, byte_known_width, cover_as_blank, cover_as_it_is, fits_as_it_is, sendable_is}
use Rattle.tui_terminal.proofs.NarrowLooks.{known_width_quiet}
use Rattle.tui_terminal_laws.proofs.Seen.{blank_step, blank_known_width}
use Rattle.tui_terminal.proofs.seeing.see_open.Goals as goal

pub overflow_sub-left : goal.overflow_sub-left
overflow_sub-left c = omega (arith, c.known_of-known.ensures.columns, c.min-left.ensures, some_step c.symbol-symbol.result.now, c.requires.0)

pub is_sendable-requires : goal.is_sendable-requires
is_sendable-requires c = (
  c.requires.1,
  λ on. known_width_quiet c.args.widths c.symbol-symbol.result.now (sym c.known_of-known.ensures.known_width ∙ on),
)

pub returns-then-is_sendable-clause-shown : goal.returns-then-is_sendable-clause-shown
returns-then-is_sendable-clause-shown c =
    let on : c.is_sendable.result ≡ true = search rules in
    as_it_is c.args.widths c.args.room c.args.cell.now c.symbol-symbol.result.now c.attributes-attributes.result c.is_sendable.result
    c.symbol-symbol.ensures.is c.attributes-attributes.ensures (sendable_is c.args.widths c.args.room c.symbol-symbol.result.now c.known_of-known.result.columns c.known_of-known.result.known_width c.is_sendable.result
    c.is_sendable.ensures c.known_of-known.ensures.columns c.known_of-known.ensures.known_width) on

pub returns-then-is_sendable-clause-next : goal.returns-then-is_sendable-clause-next
returns-then-is_sendable-clause-next c =
    let on : c.is_sendable.result ≡ true = search rules in
    let left : _ ≡ min (step_of c.symbol-symbol.result.now) c.args.room - 1 = omega (arith, c.known_of-known.ensures.columns, c.min-left.ensures) in
    cover_as_it_is c.args.widths c.args.room c.args.cell.now c.symbol-symbol.result.now _ c.is_sendable.result
    c.symbol-symbol.ensures.is left (sendable_is c.args.widths c.args.room c.symbol-symbol.result.now c.known_of-known.result.columns c.known_of-known.result.known_width c.is_sendable.result
    c.is_sendable.ensures c.known_of-known.ensures.columns c.known_of-known.ensures.known_width) on

pub returns-then-is_sendable-clause-fits : goal.returns-then-is_sendable-clause-fits
returns-then-is_sendable-clause-fits c =
    let on : c.is_sendable.result ≡ true = search rules in
    let fits = fits_as_it_is c.args.widths c.args.room c.symbol-symbol.result.now c.is_sendable.result (sendable_is c.args.widths c.args.room c.symbol-symbol.result.now c.known_of-known.result.columns c.known_of-known.result.known_width c.is_sendable.result
    c.is_sendable.ensures c.known_of-known.ensures.columns c.known_of-known.ensures.known_width) on in
    omega (arith, fits, c.known_of-known.ensures.columns)

pub returns-else-is_sendable-clause-shown : goal.returns-else-is_sendable-clause-shown
returns-else-is_sendable-clause-shown c =
    let off : c.is_sendable.result ≡ false = search rules in
    as_blank c.args.widths c.args.room c.args.cell.now c.symbol-symbol.result.now c.attributes-attributes.result c.is_sendable.result
    c.symbol-symbol.ensures.is c.attributes-attributes.ensures (sendable_is c.args.widths c.args.room c.symbol-symbol.result.now c.known_of-known.result.columns c.known_of-known.result.known_width c.is_sendable.result
    c.is_sendable.ensures c.known_of-known.ensures.columns c.known_of-known.ensures.known_width) off

pub returns-else-is_sendable-clause-next : goal.returns-else-is_sendable-clause-next
returns-else-is_sendable-clause-next c =
    let off : c.is_sendable.result ≡ false = search rules in
    let left : _ ≡ min (step_of c.symbol-symbol.result.now) c.args.room - 1 = omega (arith, c.known_of-known.ensures.columns, c.min-left.ensures) in
    cover_as_blank c.args.widths c.args.room c.args.cell.now c.symbol-symbol.result.now c.attributes-attributes.result _ c.is_sendable.result
    c.symbol-symbol.ensures.is c.attributes-attributes.ensures left (sendable_is c.args.widths c.args.room c.symbol-symbol.result.now c.known_of-known.result.columns c.known_of-known.result.known_width c.is_sendable.result
    c.is_sendable.ensures c.known_of-known.ensures.columns c.known_of-known.ensures.known_width) off

pub returns-else-is_sendable-clause-columns : goal.returns-else-is_sendable-clause-columns
returns-else-is_sendable-clause-columns c = sym blank_step

pub returns-else-is_sendable-clause-known_width : goal.returns-else-is_sendable-clause-known_width
returns-else-is_sendable-clause-known_width c = sym (blank_known_width c.args.widths)

pub returns-then-is_ascii-clause-shown : goal.returns-then-is_ascii-clause-shown
returns-then-is_ascii-clause-shown c =
    let on : c.is_ascii.result ≡ true = search rules in
    byte_shown c.args.widths c.args.room c.args.cell.now c.symbol-symbol.result.now c.attributes-attributes.result c.requires.0
    c.symbol-symbol.ensures.is c.attributes-attributes.ensures (sym c.is_ascii.ensures ∙ on)

pub returns-then-is_ascii-clause-next : goal.returns-then-is_ascii-clause-next
returns-then-is_ascii-clause-next c =
    let on : c.is_ascii.result ≡ true = search rules in
    c.none.ensures ∙ byte_covers c.args.widths c.args.room c.args.cell.now c.symbol-symbol.result.now c.requires.0 c.symbol-symbol.ensures.is (sym c.is_ascii.ensures ∙ on)

pub returns-then-is_ascii-clause-columns : goal.returns-then-is_ascii-clause-columns
returns-then-is_ascii-clause-columns c =
    let on : c.is_ascii.result ≡ true = search rules in
    sym (byte_steps c.symbol-symbol.result.now (sym c.is_ascii.ensures ∙ on))

pub returns-then-is_ascii-clause-known_width : goal.returns-then-is_ascii-clause-known_width
returns-then-is_ascii-clause-known_width c =
    let on : c.is_ascii.result ≡ true = search rules in
    sym (byte_known_width c.args.widths c.symbol-symbol.result.now (sym c.is_ascii.ensures ∙ on))
