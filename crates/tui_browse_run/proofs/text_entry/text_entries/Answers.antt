use Rattle.std.proofs.Common.{arith, refl}
use Rattle.tui_browse_run.proofs.Mapped.{map_all, map_next}
use Rattle.tui_browse_run.specs.Pieces.{entry_of, piece_data}
use Rattle.tui_browse_run.specs.TextEntry.{text_entry_data}
use Rattle.tui_browse_run.proofs.text_entry.text_entries.Goals as goal

pub pieces-init : goal.pieces-init
pieces-init c = rw c.in_ok-entries.ensures.items refl

pub pieces-preserved : goal.pieces-preserved
pieces-preserved c =
    map_next text_entry_data (λ p. entry_of (piece_data p)) c.pieces.entries.items c.push.new.self.items c.args.pieces.now c.pieces.i
    c.in_ok-text_entry.field-0 _ c.pieces.invariant c.in_ok-push.ensures.items c.pieces-test.true c.in_ok-text_entry.ensures

pub returns : goal.returns
returns c =
    let over = c.pieces-test.false in
    map_all text_entry_data (λ p. entry_of (piece_data p)) c.pieces.entries.items c.args.pieces.now c.pieces.i c.pieces.invariant (omega (arith, over))
