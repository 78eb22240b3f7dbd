use Rattle.std.proofs.Common.{◌∷◌, ◌++◌, [], length, map, ap, ap₂, sym, ◌∙◌, arith}
use Rattle.std.proofs.lemmas.List.{length-append, map-append}
use Rattle.tui_text.specs.Grapheme.{glyph_of}
use Rattle.tui_para.specs.Mark.{mark_of}
use Rattle.tui_para.specs.Marked.{splits_of}
use Rattle.tui_para.proofs.Zipped.{zipped, zipped_push}
use Rattle.tui_para.proofs.wrapping.marked.Marked.push.Goals as goal

pub returns-in-Ok-clause-ok : goal.returns-in-Ok-clause-ok
returns-in-Ok-clause-ok c =
    let s = c.args.self.now in
    ap₂ zipped c.in-Ok.ensures.items c.in_ok-push.ensures.items ∙ zipped_push s.graphemes.items s.marks.items c.args.grapheme c.args.mark s.together

pub invariant_of-self-in-Ok : goal.invariant_of-self-in-Ok
invariant_of-self-in-Ok c =
    let s = c.args.self.now in
    let m = c.args.mark in
    let g = c.args.grapheme in
    let same = s.together in
    let splits = ap₂ zipped c.in-Ok.ensures.items c.in_ok-push.ensures.items ∙ zipped_push s.graphemes.items s.marks.items g m s.together in
    let gs = ap length c.in-Ok.ensures.items in
    let ms = ap length c.in_ok-push.ensures.items in
    let more = length-append s.graphemes.items (g ∷ []) in
    let marks = length-append s.marks.items (m ∷ []) in
    record {
      together = omega arith;
      marked = c.in_ok-push.ensures.items ∙ (ap (λ k. k ++ m ∷ []) s.marked ∙ (ap (λ k. map mark_of (splits_of s) ++ k ∷ []) c.requires
          ∙ (sym (map-append mark_of (splits_of s) ((glyph_of g, m.split) ∷ [])) ∙ sym (ap (map mark_of) splits))));
    }
