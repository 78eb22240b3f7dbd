use Rattle.std.proofs.Common.{◌≡◌, map, ap, refl, sym, subst, Some}
use Rattle.std.specs.Prelude.{sum_by}
use Rattle.tui_text.specs.Grapheme.{glyph_of, glyph_width}
use Rattle.tui_para.specs.Lines.{IsTaken, glyph_line}
use Rattle.tui_para.specs.Wrapping.{truncator_yields}
use Rattle.tui_para.proofs.truncator.LineTruncatorLineComposer.next_line.Goals as goal

pub returns-in-Some : goal.returns-in-Some
returns-in-Some g c =
    let s = c.args.self.now in
    let new = c.advance.new.self in
    let yielded = sym (ap (map glyph_of) c.deref.ensures.value) in
    let failed = c.in_ok-advance.ensures.failed in
    let found = rw c.in-Some.is at c.in_ok-advance.ensures.found in
    let yields = truncator_yields g.O.Iterator.next_gives g.I.Iterator.next_gives in (
      (
        refl,
        λ _. tt,
        (
          c.advance.ensures.ready,
          (failed.0, failed.1, subst (λ gs. IsTaken (Some (glyph_line new.alignment gs)) (yields s) (yields new)) yielded found.first),
        ),
      ),
      record { width = subst (λ gs. c.in-Some.width ≡ sum_by glyph_width gs) yielded found.columns; after = tt },
    )
