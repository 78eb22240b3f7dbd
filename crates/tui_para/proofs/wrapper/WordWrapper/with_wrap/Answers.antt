use Rattle.tui_text.specs.declared.alignment.Alignment.TheVariants.{Left}
use Rattle.tui_para.specs.Given.{IsGlyph, MayGive, MayBe, WillGive, WillBe}
use Rattle.tui_para.proofs.WrapperNextLine.{fresh_wrapper}
use Rattle.tui_para.proofs.wrapper.WordWrapper.with_wrap.Goals as goal

pub returns-clause-may : goal.returns-clause-may
returns-clause-may g c =
    let e = c.new.ensures in
    fresh_wrapper c.new.result (MayGive g.I.Iterator.next_gives IsGlyph) (MayGive g.O.Iterator.next_gives (MayBe g.I.Iterator.next_gives) c.args.lines) Left c.args.max_line_width c.args.wrap e.source e.old e.line e.width e.wrap

pub returns-clause-will : goal.returns-clause-will
returns-clause-will g c =
    let e = c.new.ensures in
    fresh_wrapper c.new.result (WillGive g.I.Iterator.next_gives IsGlyph) (WillGive g.O.Iterator.next_gives (WillBe g.I.Iterator.next_gives) c.args.lines) Left c.args.max_line_width c.args.wrap e.source e.old e.line e.width e.wrap
