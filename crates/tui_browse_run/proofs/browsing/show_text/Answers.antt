use Rattle.std.proofs.Common.{ap, map, ◌∙◌}
use Rattle.std.proofs.lemmas.Result.{err_from_is_err_and}
use Rattle.tui_browse_run.proofs.Parsing.{text_means, text_stops}
use Rattle.tui_browse_run.proofs.browsing.show_text.Goals as goal
use Rattle.tui_browse_run.specs.Pieces.{entry_of, piece_data}
use Rattle.tui_browse_run.specs.TextEntry.{text_entry_data}
use Rattle.tui_pager_lib.specs.Entry.{entry_data}

pub returns-in_err-pieces-clause-shown : goal.returns-in_err-pieces-clause-shown
returns-in_err-pieces-clause-shown g c =
    let p = err_from_is_err_and c.from_residual.result c.from_residual.ensures.1 in
    rw (p.1, p.2) (text_stops c.in-Ok.text.now c.args.bytes.now c.in_err-pieces.field-0.0 c.in-Ok.ensures.cases.0 c.in-Ok.ensures.cases.1 c.in_err-pieces.ensures)

pub returns-clause-shown : goal.returns-clause-shown
returns-clause-shown g c =
    let borrowed = c.in_ok-borrowed.ensures ∙ ap (map text_entry_data) c.as_slice-2.ensures.value in
    let entries = c.in_ok-entries.ensures ∙ ap (map (λ p. entry_of (piece_data p))) c.as_slice.ensures.value in (
      map entry_data c.in_ok-borrowed.borrowed.items,
      text_means c.in-Ok.text.now c.args.bytes.now c.in_ok-pieces.pieces.items (map entry_data c.in_ok-borrowed.borrowed.items) c.in-Ok.ensures.cases.0
          c.in-Ok.ensures.cases.1 c.in_ok-pieces.ensures (borrowed ∙ entries),
      c.show.ensures,
    )
