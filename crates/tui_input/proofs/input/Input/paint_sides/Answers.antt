use Rattle.std.proofs.Common.{List, ℕ, All, refl, subst, sym}
use Rattle.std.proofs.lemmas.List.Elements.{All-drop}
use Rattle.tui_cells.specs.Cell.{IsAllocationFree}
use Rattle.tui_input.specs.Input.{input_data}
use Rattle.tui_input.specs.Scroll.{shown}
use Rattle.tui_input.proofs.InputMoved.{left_pieces, right_pieces, sides_painted}
use Rattle.tui_input.proofs.input.Input.paint_sides.Goals as goal

pub returns-clause-ok : goal.returns-clause-ok
returns-clause-ok c =
    let mask = (input_data c.args.self.now).mask in
    let s = c.args.state.now in
    sides_painted mask c.args.at.x c.args.at.y c.args.room _ _ s c.args.first _ _ _ _ _
    (left_pieces mask _ _ s c.args.first c.graphemes_from.ensures c.sides.ensures.before) (right_pieces mask _ _ s c.graphemes.ensures.left c.sides.ensures.after)
    c.requires.fits c.in_ok-x.ensures.end refl c.in_ok-x.ensures.ok c.in_ok-write_graphemes.ensures.ok

pub returns-in_err-x-clause-allocation_free : goal.returns-in_err-x-clause-allocation_free
returns-in_err-x-clause-allocation_free c = λ h.
    let mask = (input_data c.args.self.now).mask in
    let s = c.args.state.now in
    let left = left_pieces mask _ _ s c.args.first c.graphemes_from.ensures c.sides.ensures.before in
    let allocation_free = subst (λ (cs : List (List ℕ)). All IsAllocationFree cs) (sym left) (All-drop IsAllocationFree c.args.first (shown mask s.before) h.before) in
    let broken = c.in_err-x.ensures.allocation_free allocation_free in
    cc

pub returns-in_err-write_graphemes-clause-allocation_free : goal.returns-in_err-write_graphemes-clause-allocation_free
returns-in_err-write_graphemes-clause-allocation_free c = λ h.
    let mask = (input_data c.args.self.now).mask in
    let right = right_pieces mask _ _ c.args.state.now c.graphemes.ensures.left c.sides.ensures.after in
    let allocation_free = subst (λ (cs : List (List ℕ)). All IsAllocationFree cs) (sym right) h.after in
    let broken = c.in_err-write_graphemes.ensures.allocation_free allocation_free in
    cc
