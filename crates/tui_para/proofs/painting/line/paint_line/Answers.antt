use Rattle.std.proofs.Common.{OnOk, List, map, subst}
use Rattle.tui_cells.specs.Layers.{Layer, Painted}
use Rattle.tui_text.specs.Grapheme.{glyph_of}
use Rattle.tui_para.proofs.Painted.{glyph_line_is}
use Rattle.tui_para.proofs.painting.line.paint_line.Goals as goal

pub returns-clause-ok : goal.returns-clause-ok
returns-clause-ok c =
    let line = c.args.line.now in
    subst (λ (ls : List Layer). OnOk c.paint_run.result (Painted ls c.args.buf.now c.paint_run.new.buf))
    (glyph_line_is c.args.rect c.saturating_add-x.result c.args.y c.start_of-start.result line.width line.alignment (map glyph_of line.graphemes.now) c.saturating_add-x.ensures c.start_of-start.ensures c.requires.width)
    c.paint_run.ensures.ok
