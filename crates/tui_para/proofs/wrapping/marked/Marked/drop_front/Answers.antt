use Rattle.std.proofs.Common.{◌-◌, map, drop, length, ap, ap₂, sym, ◌∙◌}
use Rattle.std.proofs.lemmas.List.{drop-map, length-drop}
use Rattle.tui_para.specs.Mark.{mark_of}
use Rattle.tui_para.specs.Marked.{splits_of}
use Rattle.tui_para.proofs.Zipped.{zipped, zipped_drop}
use Rattle.tui_para.proofs.wrapping.marked.Marked.drop_front.Goals as goal

pub returns-clause-dropped : goal.returns-clause-dropped
returns-clause-dropped c =
    let s = c.args.self.now in
    ap₂ zipped c.drop_front.ensures c.drop_front-2.ensures ∙ zipped_drop c.args.count s.graphemes.items s.marks.items s.together

pub invariant_of-self : goal.invariant_of-self
invariant_of-self c =
    let s = c.args.self.now in
    let n = c.args.count in
    let same = s.together in
    let splits = ap₂ zipped c.drop_front.ensures c.drop_front-2.ensures ∙ zipped_drop n s.graphemes.items s.marks.items s.together in
    record {
      together = ap length c.drop_front.ensures ∙ (length-drop n s.graphemes.items ∙ (ap (λ k. k - n) same ∙ (sym (length-drop n s.marks.items) ∙ sym (ap length c.drop_front-2.ensures))));
      marked = c.drop_front-2.ensures ∙ (ap (drop n) s.marked ∙ (drop-map mark_of n (splits_of s) ∙ sym (ap (map mark_of) splits)));
    }
