use Rattle.std.proofs.Common.{ap, sym, ◌∙◌, map}
use Rattle.std.specs.List.{between}
use Rattle.tui_text.specs.Grapheme.{glyph_of}
use Rattle.tui_para.proofs.Parts.{between-map}
use Rattle.tui_para.proofs.Zipped.{glyphs_zipped}
use Rattle.tui_para.proofs.wrapping.marked.Marked.part.Goals as goal

pub returns : goal.returns
returns c =
    let s = c.args.self.now in
    ap (λ gs. map glyph_of (between c.args.start c.args.end gs)) c.deref.ensures.value
    ∙ (sym (between-map glyph_of c.args.start c.args.end s.graphemes.items) ∙ ap (between c.args.start c.args.end) (sym (glyphs_zipped s.graphemes.items s.marks.items s.together)))
