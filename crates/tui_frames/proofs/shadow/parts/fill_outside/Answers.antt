use Rattle.std.proofs.Common.{[], ◌∷◌}
use Rattle.tui_cells.specs.Cell.{set_style, write}
use Rattle.tui_cells.proofs.Painting.{KeptOutside-then}
use Rattle.tui_text.proofs.Elements.{on_ok}
use Rattle.tui_frames.proofs.Shading.{edits_kept, four_painted, outside_kept, side_kept, swapped}
use Rattle.tui_frames.specs.declared.shadow.parts.Side.TheVariants.{Above, Below, LeftOf, RightOf}
use Rattle.tui_frames.proofs.shadow.parts.fill_outside.Goals as goal

pub returns-clause-ok : goal.returns-clause-ok
returns-clause-ok c =
    let first = swapped _ _ _ _ _ (rw c.part.ensures at c.in_ok-fill.ensures.ok) in
    let second = swapped _ _ _ _ _ (rw c.part-2.ensures at c.in_ok-fill-2.ensures.ok) in
    let third = swapped _ _ _ _ _ (rw c.part-3.ensures at c.in_ok-fill-3.ensures.ok) in
    on_ok c.fill-4.result
    (λ last. four_painted c.args.area c.args.base (set_style c.args.brush.style ∷ write c.args.brush.symbol.now ∷ []) _ _ _ _ _
    first second third (swapped _ _ _ _ _ last))
    (rw c.part-4.ensures at c.fill-4.ensures.ok)

pub returns-in_err-fill-clause-kept : goal.returns-in_err-fill-clause-kept
returns-in_err-fill-clause-kept c = outside_kept c.args.area c.args.base Above _ _ (rw c.part.ensures at c.in_err-fill.ensures.err)

pub returns-in_err-fill-2-clause-kept : goal.returns-in_err-fill-2-clause-kept
returns-in_err-fill-2-clause-kept c =
    let edits = write c.args.brush.symbol.now ∷ set_style c.args.brush.style ∷ [] in
    let first = edits_kept c.args.area c.args.base Above edits _ _ (rw c.part.ensures at c.in_ok-fill.ensures.ok) in
    KeptOutside-then first (outside_kept c.args.area c.args.base Below _ _ (rw c.part-2.ensures at c.in_err-fill-2.ensures.err))

pub returns-in_err-fill-3-clause-kept : goal.returns-in_err-fill-3-clause-kept
returns-in_err-fill-3-clause-kept c =
    let edits = write c.args.brush.symbol.now ∷ set_style c.args.brush.style ∷ [] in
    let first = edits_kept c.args.area c.args.base Above edits _ _ (rw c.part.ensures at c.in_ok-fill.ensures.ok) in
    let second = edits_kept c.args.area c.args.base Below edits _ _ (rw c.part-2.ensures at c.in_ok-fill-2.ensures.ok) in
    KeptOutside-then (KeptOutside-then first second) (outside_kept c.args.area c.args.base LeftOf _ _ (rw c.part-3.ensures at c.in_err-fill-3.ensures.err))

pub returns-clause-kept : goal.returns-clause-kept
returns-clause-kept c =
    let edits = write c.args.brush.symbol.now ∷ set_style c.args.brush.style ∷ [] in
    let first = edits_kept c.args.area c.args.base Above edits _ _ (rw c.part.ensures at c.in_ok-fill.ensures.ok) in
    let second = edits_kept c.args.area c.args.base Below edits _ _ (rw c.part-2.ensures at c.in_ok-fill-2.ensures.ok) in
    let third = edits_kept c.args.area c.args.base LeftOf edits _ _ (rw c.part-3.ensures at c.in_ok-fill-3.ensures.ok) in
    KeptOutside-then (KeptOutside-then (KeptOutside-then first second) third)
    (side_kept c.fill-4.result c.args.area c.args.base RightOf edits _ _ (rw c.part-4.ensures at c.fill-4.ensures.ok) (rw c.part-4.ensures at c.fill-4.ensures.err))
