use Rattle.std.proofs.Common.{arith, rules, length, ◌≡◌, ◌+◌, ◌<◌, ◌∷◌, ◌∙◌, ap, drop, map}
use Rattle.tui_text.specs.Grapheme.{glyph_of}
use Rattle.tui_para.proofs.ByteRuns.{copied_more, glyphs_next, printable_more}
use Rattle.tui_para.proofs.painting.bytes.copy_bytes.Goals as goal

pub loop-count-preserved : goal.loop-count-preserved
loop-count-preserved c =
    let k = c.loop-count.invariant in
    let n = c.loop-count.count in
    let place = c.args.place in
    let gs = map glyph_of c.args.run.now in
    let less = c.loop-count-test.true in
    let room : n < length c.loop-count.bytes = search (rules, arith) in
    let near : place + n < length c.args.run.now = search (rules, arith) in
    let next : place + n + 1 ≡ place + (n + 1) = omega arith in
    let here = glyphs_next c.args.run.now (place + n) _ near ∙ ap (λ g. g ∷ drop (place + n + 1) gs) c.in-Some.ensures.0 in
    record {
      within = omega (arith, less);
      printable = printable_more _ n _ room k.printable c.in-Some.ensures.1;
      copied = rw next at (copied_more c.args.style.now _ _ _ n _ _ room k.copied here);
    }
