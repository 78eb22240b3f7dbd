use Rattle.std.proofs.Common.{refl, sym, ◌∙◌, map, rules}
use Rattle.tui_text.specs.Grapheme.{glyph_of}
use Rattle.tui_para.specs.Marked.{splits_of}
use Rattle.tui_para.proofs.WithSplits.{fit_after}
use Rattle.tui_para.proofs.wrapping.text_line.TextLine.read_more.Goals as goal

pub invariant_of-self-in-Break-1 : goal.invariant_of-self-in-Break-1
invariant_of-self-in-Break-1 g c =
    let s = c.args.self.now in
    let (before, taken, stand) = c.read.ensures.fit in
    record {
      within = search rules;
      fit = fit_after s.width s.place before (splits_of s.line) (splits_of c.drop_front.new.self) (splits_of c.read.new.self) (map glyph_of taken) s.fit c.drop_front.ensures.dropped stand;
    }

pub invariant_of-self-2 : goal.invariant_of-self-2
invariant_of-self-2 g c =
    let s = c.args.self.now in
    let (before, taken, stand) = c.read.ensures.fit in
    record {
      within = search rules;
      fit = fit_after s.width s.place before (splits_of s.line) (splits_of c.drop_front.new.self) (splits_of c.read.new.self) (map glyph_of taken) s.fit c.drop_front.ensures.dropped stand;
    }

pub returns-clause-read : goal.returns-clause-read
returns-clause-read g c =
    let (taken, reads, has) = c.in_ok-self.ensures.read in
    record {
      taken = taken;
      reads = rw (sym c.take.ensures.value ∙ c.in-Some.is) reads;
      after = rw (c.drop_front.ensures.dropped, c.drop_front.ensures.same) at has.after;
      goes_on = rw c.drop_front.ensures.same at has.goes_on;
      is_new = refl;
      width = refl;
      wrap = refl;
    }
