use Rattle.std.proofs.Common.{◌≤◌, ◌++◌, ◌∙◌, ap, sym, subst, length, map, take, drop, arith}
use Rattle.tui_text.specs.Grapheme.{glyph_of}
use Rattle.tui_para.specs.Hyphenation.{after_all}
use Rattle.tui_para.specs.Mark.{AreMarks}
use Rattle.tui_para.specs.Marked.{splits_of}
use Rattle.tui_para.proofs.MarkedSplits.{are_marked, marks_of, nothing_marked, splits_are_marked}
use Rattle.tui_para.proofs.Zipped.{length_zipped}
use Rattle.tui_para.proofs.wrapping.marked.Marked.mark_splits_from.Goals as goal

pub returns-in-Off : goal.returns-in-Off
returns-in-Off c = record { split = λ front glyphs n e. nothing_marked c.args.self.now.hyphenation (splits_of c.args.self.now) front glyphs c.in-Off.is e }

pub invariant_of-self : goal.invariant_of-self
invariant_of-self c =
    let s = c.args.self.now in
    let n = c.args.start in
    let within : n ≤ length s.graphemes.items = let far = c.requires in let long = length_zipped s.graphemes.items s.marks.items s.together in omega arith in
    let new = c.mark_splits-self.ensures.marks ∙ ap (λ gs. take n s.marks.items ++ marks_of s.hyphenation (drop n gs)) c.deref.ensures.value in
    let are = subst (AreMarks s.graphemes.items) (sym new) (are_marked s.hyphenation n s.graphemes.items s.marks.items within (record { together = s.together; marked = s.marked })) in
    record { together = are.together; marked = are.marked }

pub returns : goal.returns
returns c =
    let s = c.args.self.now in
    let n = c.args.start in
    let within : n ≤ length s.graphemes.items = let far = c.requires in let long = length_zipped s.graphemes.items s.marks.items s.together in omega arith in
    let new = c.mark_splits-self.ensures.marks ∙ ap (λ gs. take n s.marks.items ++ marks_of s.hyphenation (drop n gs)) c.deref.ensures.value in
    let goes = c.mark_splits-self.ensures.after ∙ ap (λ gs. after_all s.hyphenation (map glyph_of (drop n gs))) c.deref.ensures.value in
    record { split = splits_are_marked s.hyphenation c.mark_splits-self.result n s.graphemes.items s.marks.items c.mark_splits-self.new.marks.items s.together within new goes }
