use Rattle.std.proofs.Common.{◌++◌, [], map, refl, sym, subst, Some, None}
use Rattle.tui_text.specs.Grapheme.{glyph_of}
use Rattle.tui_para.specs.Given.{IsGlyph, MayGive, SourceGives}
use Rattle.tui_para.proofs.IteratorSteps.{all_may}
use Rattle.tui_para.proofs.wrapping.text_line.TextLine.read_to_end.Goals as goal

pub returns-in-Some : goal.returns-in-Some
returns-in-Some g c =
    let (all, drains) = c.read_line.ensures in
    let glyphs = map glyph_of all ++ [] in
    (glyphs, subst (λ o. SourceGives (MayGive g.I.Iterator.next_gives IsGlyph) o glyphs) (sym c.in-Some.is) (all_may g.I.Iterator.next_gives (Some c.in-Some.line) None all drains refl))
