use Rattle.std.proofs.Common.{◌≡◌, ℕ, ◌+◌, ◌<◌, ◌≤◌, List, length, get_or, flat_map, rules, true, false, sym, ap, ◌∙◌, arith}
use Rattle.std.proofs.lemmas.List.{get_or_read_under}
use Rattle.tui_cells.specs.Attributes.{look_of}
use Rattle.tui_cells.specs.Cell.{Look, blank}
use Rattle.tui_io.proofs.Printing.{Prints-none}
use Rattle.tui_text.proofs.ShownCells.{some_step}
use Rattle.tui_text.specs.Visible.{step_of}
use Rattle.tui_terminal_model.specs.Encoding.{encoding}
use Rattle.tui_terminal_model.specs.Symbols.{has_known_width}
use Rattle.tui_terminal_laws.specs.declared.at.At.{At}
use Rattle.tui_terminal_laws.specs.Sending.{send, send_one}
use Rattle.tui_terminal.specs.Sent.{at_reached, placed_at, placed_if}
use Rattle.tui_terminal.proofs.AtReached.{reached_none, reached_sent}
use Rattle.tui_terminal.proofs.Texts.{Prints-text}
use Rattle.tui_terminal.proofs.Walking.{here_text, none_text}
use Rattle.tui_terminal.proofs.sending.emit_cell_if.Goals as goal

some : (row : List Look) (place columns : ℕ) → columns ≡ step_of (get_or row place blank).symbol → place + columns ≤ length row → place < length row
some row place columns is le = omega (arith, is, le, some_step (get_or row place blank).symbol)

pub returns-then-not-spot-clause-next : goal.returns-then-not-spot-clause-next
returns-then-not-spot-clause-next g c =
    let a = c.args in
    let off : a.spot.wanted ≡ false = search rules in
    reached_none a.target.output.widths (a.target.left + a.spot.place) (get_or a.row.now a.spot.place blank) (at_reached a.target.left a.row.now a.reached.last a.reached.after) a.spot.wanted off

pub returns-then-not-spot-clause-emitted : goal.returns-then-not-spot-clause-emitted
returns-then-not-spot-clause-emitted g c =
    let a = c.args in
    let off : a.spot.wanted ≡ false = search rules in
    Prints-text (none_text a.target.output a.target.y (at_reached a.target.left a.row.now a.reached.last a.reached.after) a.spot.wanted (a.target.left + a.spot.place) (get_or a.row.now a.spot.place blank) off) (Prints-none _ _)

pub bounds-row-spot : goal.bounds-row-spot
bounds-row-spot g c = some c.args.row.now c.args.spot.place c.args.spot.columns c.requires.cell.0 c.requires.within.2

pub emit_piece-requires : goal.emit_piece-requires
emit_piece-requires g c =
    let a = c.args in
    let row = a.row.now in
    let lt = some row a.spot.place a.spot.columns c.requires.cell.0 c.requires.within.2 in
    let cell = get_or_read_under row a.spot.place (length row) c.index-row-spot.result blank c.index-row-spot.is lt (omega arith) in
    let symbol = c.symbol.ensures.is ∙ ap (λ (k : Look). k.symbol) cell in (
      omega (arith, c.requires.within.0, c.requires.within.2),
      c.requires.within.1,
      c.requires.cell.0 ∙ ap step_of (sym symbol),
      sym (ap (has_known_width a.target.output.widths) symbol ∙ c.requires.cell.1),
    )

pub returns-clause-next : goal.returns-clause-next
returns-clause-next g c =
    let a = c.args in
    let row = a.row.now in
    let on : a.spot.wanted ≡ true = search rules in
    reached_sent a.target.output.widths a.target.left a.spot.place (a.spot.place + a.spot.columns) row (at_reached a.target.left row a.reached.last a.reached.after) a.spot.wanted on c.requires.cell.1 (omega (arith, c.requires.cell.0))

pub returns-clause-emitted : goal.returns-clause-emitted
returns-clause-emitted g c =
    let a = c.args in
    let o = a.target.output in
    let row = a.row.now in
    let on : a.spot.wanted ≡ true = search rules in
    let k = c.attributes.result in
    let s = c.symbol.result.now in
    let lt = some row a.spot.place a.spot.columns c.requires.cell.0 c.requires.within.2 in
    let cell = get_or_read_under row a.spot.place (length row) c.index-row-spot.result blank c.index-row-spot.is lt (omega arith) in
    let same : look_of s k ≡ get_or row a.spot.place blank = ap (λ (t : List _). look_of t k) c.symbol.ensures.is ∙ (c.attributes.ensures ∙ cell) in
    let at = at_reached a.target.left row a.reached.last a.reached.after in
    Prints-text
    (ap (λ (k : At). flat_map encoding (send_one o.depth a.target.y k (placed_at (a.target.left + a.spot.place) s c.attributes.result))) c.at_reached-at.ensures
    ∙ (here_text o a.target.y at a.spot.wanted (a.target.left + a.spot.place) (look_of s k) on ∙ ap (λ (l : Look). flat_map encoding (send o a.target.y at (placed_if a.spot.wanted (a.target.left + a.spot.place) l))) same)) c.emit_piece.ensures.emitted
