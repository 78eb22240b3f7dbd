use Rattle.std.proofs.Common.{◌≡◌, ◌<◌, ◌+◌, ◌-◌, ◌∙◌, ap, arith, get_or, length, map, subst, sym, take}
use Rattle.std.specs.Prelude.{slice_get}
use Rattle.tui_pages_lib.specs.Report.{cells_of}
use Rattle.tui_pages_lib.specs.Starts.{HaveRows, continued_pieces}
use Rattle.tui_pages_lib.specs.declared.piece.Piece.{Piece}
use Rattle.tui_pages_lib.proofs.ContinuedPieces.{next_continued, one_more}
use Rattle.tui_pages_lib.proofs.starts.starts.Goals as goal

pub pieces-preserved : goal.pieces-preserved
pieces-preserved c =
    let ps = c.args.pieces.now in
    let at = c.pieces.at in
    let d : Piece = record { place = 0; from = 0; to = 0 } in
    let h : at < length ps = c.pieces-test.true in
    let on : 0 < (get_or ps at d).from = omega (arith, c.if-piece-eq0.false) in
    let next = next_continued ps at d h on in
    let more = one_more ps at d h on in
    let count = length (continued_pieces (take at ps)) in
    let one : length (continued_pieces (take (at + 1) ps)) - 1 ≡ count = omega arith in
    record {
      rows = subst (λ n. HaveRows c.args.places.now (map cells_of c.args.records.now) ps n c.add_row.new.starts.items) (sym more)
          (c.in_ok-add_row.ensures ps count next c.pieces.invariant.last c.pieces.invariant.rows);
      last = λ b e. ap (slice_get (continued_pieces ps)) one ∙ (next ∙ e);
    }
