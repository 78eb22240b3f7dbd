use Rattle.std.proofs.Common.{ℕ, List, All, ap, map, sym, subst, ◌∙◌, arith}
use Rattle.std.proofs.lemmas.List.Elements.{All-head, All-tail}
use Rattle.std.specs.Option.{option_copied}
use Rattle.std.specs.Prelude.{unwrap_or}
use Rattle.tui_cells.proofs.Painting.{KeptOutside-then}
use Rattle.tui_cells.specs.Cell.{IsAllocationFree}
use Rattle.tui_input.proofs.InputMoved.{kept_in_room, next_piece}
use Rattle.tui_text.proofs.Settings.{end_more, end_none, end_stop, set_more, set_none, set_stop}
use Rattle.tui_input.proofs.input.rendering.write_graphemes.Goals as goal

pub returns-then-width-left-clause-ok : goal.returns-then-width-left-clause-ok
returns-then-width-left-clause-ok c =
    let next = next_piece (option_copied c.args.mask) _ _ _ _ c.in-Some.ensures.steps c.masked-symbol.ensures in
    c.loop-grapheme.invariant.rest _ (set_stop _ _ _ _ _ _ _ _ next (omega (arith, c.cell_width-width.ensures, c.if-width-left.true)))

pub returns-then-width-left-clause-end : goal.returns-then-width-left-clause-end
returns-then-width-left-clause-end c =
    let next = next_piece (option_copied c.args.mask) _ _ _ _ c.in-Some.ensures.steps c.masked-symbol.ensures in
    sym (end_stop _ _ _ _ _ next (omega (arith, c.cell_width-width.ensures, c.if-width-left.true))) ∙ c.loop-grapheme.invariant.end

pub returns-in_err-write_grapheme-clause-kept : goal.returns-in_err-write_grapheme-clause-kept
returns-in_err-write_grapheme-clause-kept c =
    let columns = c.loop-grapheme.invariant.columns in
    let left = c.loop-grapheme.invariant.left in
    KeptOutside-then c.loop-grapheme.invariant.kept
    (kept_in_room c.args.at.x c.args.room _ _ c.args.at.y _ _ (omega (arith, columns, left)) (omega (arith, columns, left, c.if-width-left.false)) c.in_err-write_grapheme.ensures.kept)

pub returns-in_err-write_grapheme-clause-allocation_free : goal.returns-in_err-write_grapheme-clause-allocation_free
returns-in_err-write_grapheme-clause-allocation_free c = λ all.
    let next = next_piece (option_copied c.args.mask) _ _ _ _ c.in-Some.ensures.steps c.masked-symbol.ensures in
    let allocation_free = All-head IsAllocationFree _ _ (subst (λ (cs : List (List ℕ)). All IsAllocationFree cs) next (c.loop-grapheme.invariant.allocation_free all)) in
    let broken = c.in_err-write_grapheme.ensures.allocation_free allocation_free in
    cc

pub loop-grapheme-preserved : goal.loop-grapheme-preserved
loop-grapheme-preserved c =
    let wide = c.cell_width-width.ensures in
    let room = c.if-width-left.false in
    let columns = c.loop-grapheme.invariant.columns in
    let left = c.loop-grapheme.invariant.left in
    let next = next_piece (option_copied c.args.mask) _ _ _ _ c.in-Some.ensures.steps c.masked-symbol.ensures in
    record {
      columns = omega (arith, columns, room);
      left = omega (arith, left);
      end = end_more _ _ _ _ _ _ _ next (omega (arith, wide, room)) (omega (arith, wide)) (omega (arith, wide)) ∙ c.loop-grapheme.invariant.end;
      rest = λ final q. c.loop-grapheme.invariant.rest final
          (set_more _ _ _ _ _ _ _ _ _ _ _ final next (omega (arith, wide, room)) (omega (arith, wide)) (omega (arith, wide)) c.in_ok-write_grapheme.ensures.ok q);
      allocation_free = λ all. All-tail IsAllocationFree _ _ (subst (λ (cs : List (List ℕ)). All IsAllocationFree cs) next (c.loop-grapheme.invariant.allocation_free all));
      kept = KeptOutside-then c.loop-grapheme.invariant.kept
          (kept_in_room c.args.at.x c.args.room _ _ c.args.at.y _ _ (omega (arith, columns, left)) (omega (arith, columns, left, room)) c.in_ok-write_grapheme.ensures.kept);
    }

pub returns-clause-ok : goal.returns-clause-ok
returns-clause-ok c =
    c.loop-grapheme.invariant.rest _ (set_none _ _ _ _ _ _ (ap (map (unwrap_or (option_copied c.args.mask))) c.in_default.ensures.steps.0))

pub returns-clause-end : goal.returns-clause-end
returns-clause-end c =
    sym (end_none _ _ _ (ap (map (unwrap_or (option_copied c.args.mask))) c.in_default.ensures.steps.0)) ∙ c.loop-grapheme.invariant.end
