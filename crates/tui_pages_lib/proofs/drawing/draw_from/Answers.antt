use Rattle.std.proofs.Common.{true, refl, ap, ◌∙◌, subst}
use Rattle.std.specs.Prelude.{OnOk}
use Rattle.tui_cells.specs.Layers.{Painted}
use Rattle.tui_para.specs.Paragraph.{ParagraphData, paragraph_of}
use Rattle.tui_line_places.specs.Parts.{HaveSameLines}
use Rattle.tui_pages_lib.specs.Strokes.{paragraph_in}
use Rattle.std.proofs.lemmas.Bool.{false≢true}
use Rattle.tui_pages_lib.proofs.Resumed.{none_drawn, rest_drawn}
use Rattle.tui_pages_lib.proofs.drawing.draw_from.Goals as goal

pub returns-in-Some-clause-ok : goal.returns-in-Some-clause-ok
returns-in-Some-clause-ok c =
    rest_drawn c.draw_whole.result c.args.rest.line c.args.from.start c.args.rest.cell.now c.in-Some.rest.now c.visible_prefix-shown.result.now c.args.place.clip c.args.place.area
    c.args.buf.now c.draw_whole.new.buf c.requires.clip c.requires.continues (c.in-Some.ensures.variant.0 refl) c.in-Some.ensures.back
    (subst (λ n. HaveSameLines c.args.place.clip.width true n c.in-Some.rest.now c.visible_prefix-shown.result.now) c.from-rows.ensures c.visible_prefix-shown.ensures)
    c.draw_whole.ensures.ok

pub returns-in-None-clause-ok : goal.returns-in-None-clause-ok
returns-in-None-clause-ok c =
    none_drawn c.draw_in.result c.args.rest.line c.args.from.start c.args.rest.cell.now c.args.place.clip c.args.place.area c.args.buf.now c.draw_in.new.buf
    c.requires.clip c.requires.continues (λ b. absurd (false≢true (c.in-None.ensures.variant.1 b)))
    (subst (λ (p : ParagraphData). OnOk c.draw_in.result (Painted (paragraph_in c.args.buf.now.area c.args.place.area p) c.args.buf.now c.draw_in.new.buf))
    (c.new-in-None.ensures ∙ ap paragraph_of c.new.ensures) c.draw_in.ensures.ok)
