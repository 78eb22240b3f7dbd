use Rattle.std.proofs.Common.{◌∷◌, ◌++◌, [], ap, subst, sym, ◌∙◌}
use Rattle.tui_line_places.specs.Reading.{HasPassed}
use Rattle.tui_line_places.proofs.AfterLine.{shorter}
use Rattle.tui_line_places.proofs.FromLine.{first_place, place_next}
use Rattle.tui_line_places.proofs.places.line_offsets.Goals as goal

pub lines-init : goal.lines-init
lines-init c =
    let first = c.in_ok-push.ensures.items ∙ ap (λ xs. xs ++ 0 ∷ []) c.new-places.ensures.items in
    (c.utf8.text, subst (λ xs. HasPassed c.args.lines.width c.args.lines.trim c.args.text.now xs c.args.text.now) (sym first) (first_place c.args.lines.width c.args.lines.trim c.args.text.now c.utf8.text))

pub lines-smaller : goal.lines-smaller
lines-smaller c =
    let next = c.in-Some.ensures in
    shorter c.args.lines.width c.args.lines.trim c.lines.rest.now c.lines.invariant.0 c.in-Some.next.now next.0 next.1

pub lines-preserved : goal.lines-preserved
lines-preserved c =
    let next = c.in-Some.ensures in (
      next.0,
      subst (λ xs. HasPassed c.args.lines.width c.args.lines.trim c.args.text.now xs c.in-Some.next.now) (sym c.in_ok-push-2.ensures.items)
          (place_next c.args.lines.width c.args.lines.trim c.args.text.now c.lines.rest.now c.in-Some.next.now next.0 next.1 c.lines.places.items c.lines.invariant.1),
    )
