use Rattle.std.proofs.Common.{◌≡◌, refl, sym, subst, Some}
use Rattle.std.specs.Prelude.{sum_by}
use Rattle.tui_text.specs.Grapheme.{glyph_width}
use Rattle.tui_para.specs.Lines.{IsTaken, glyph_line}
use Rattle.tui_para.specs.Wrapping.{wrapper_yields}
use Rattle.tui_para.proofs.wrapper.WordWrapperLineComposer.next_line.Goals as goal

pub returns-in-Some : goal.returns-in-Some
returns-in-Some g c =
    let s = c.args.self.now in
    let new = c.advance.new.self in
    let yielded = sym c.part-graphemes.ensures in
    let failed = c.in_ok-advance.ensures.failed in
    let found = rw c.in-Some.is at c.in_ok-advance.ensures.found in
    let yields = wrapper_yields g.O.Iterator.next_gives g.I.Iterator.next_gives in (
      (
        refl,
        λ _. tt,
        (
          c.advance.ensures.ready,
          (failed.0, failed.1, subst (λ gs. IsTaken (Some (glyph_line new.alignment gs)) (yields s) (yields new)) yielded found.first),
        ),
      ),
      record { width = subst (λ gs. c.in-Some.part.width ≡ sum_by glyph_width gs) yielded found.is_part.columns; after = tt },
    )
