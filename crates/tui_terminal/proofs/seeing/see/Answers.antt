use Rattle.std.proofs.Common.{◌≡◌, rules, true, false, sym, ◌∙◌, arith}
use Rattle.tui_terminal.specs.Seeing.{cover_of}
use Rattle.tui_terminal.proofs.Looks.{next_open, next_under, not_open, shown_open, shown_under}
use Rattle.tui_terminal.proofs.seeing.see.Goals as goal

pub returns-then-is_open-clause-shown : goal.returns-then-is_open-clause-shown
returns-then-is_open-clause-shown c =
    let on : c.is_open.result ≡ true = search rules in
    c.see_open.ensures.shown ∙ shown_open c.args.widths (cover_of c.args.under) c.args.room c.args.cell.now (sym c.is_open.ensures ∙ on)

pub returns-then-is_open-clause-next : goal.returns-then-is_open-clause-next
returns-then-is_open-clause-next c =
    let on : c.is_open.result ≡ true = search rules in
    c.see_open.ensures.next ∙ next_open c.args.widths (cover_of c.args.under) c.args.room c.args.cell.now (sym c.is_open.ensures ∙ on)

pub see_under-requires : goal.see_under-requires
see_under-requires c =
    let off : c.is_open.result ≡ false = search rules in
    not_open c.args.under.left (sym c.is_open.ensures ∙ off)

pub returns-else-is_open-clause-shown : goal.returns-else-is_open-clause-shown
returns-else-is_open-clause-shown c =
    let off : c.is_open.result ≡ false = search rules in
    c.see_under.ensures.shown ∙ shown_under c.args.widths (cover_of c.args.under) c.args.room c.args.cell.now (sym c.is_open.ensures ∙ off)

pub returns-else-is_open-clause-next : goal.returns-else-is_open-clause-next
returns-else-is_open-clause-next c =
    let off : c.is_open.result ≡ false = search rules in
    c.see_under.ensures.next ∙ next_under c.args.widths (cover_of c.args.under) c.args.room c.args.cell.now (sym c.is_open.ensures ∙ off)

pub returns-else-is_open-clause-fits : goal.returns-else-is_open-clause-fits
returns-else-is_open-clause-fits c = omega (arith, c.see_under.ensures.fits, c.requires.0)
