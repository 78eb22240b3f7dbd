use Rattle.tui_cells.proofs.Painting.{KeptOutside-then}
use Rattle.tui_cells.specs.Rect.{covers}
use Rattle.tui_text.specs.Grapheme.{glyph_of}
use Rattle.tui_para.specs.Stays.{at_outside}
use Rattle.tui_para.proofs.Painted.{cell_outside, glyph_written, stroke_kept}
use Rattle.tui_para.proofs.painting.line.paint_grapheme.Goals as goal

pub returns-in_ok-set_symbol-clause-kept : goal.returns-in_ok-set_symbol-clause-kept
returns-in_ok-set_symbol-clause-kept c =
    let clip = c.args.clip in
    let at = c.args.at in
    let inside = c.requires.inside in
    KeptOutside-then
    (stroke_kept _ (covers clip) _ _ _ (λ a b out. at_outside clip at.x at.y a b inside out) c.in_ok-set_symbol.ensures.ok)
    (stroke_kept _ (covers clip) _ _ _ (λ a b out. cell_outside clip at.x at.y a b inside out) c.set_style.ensures)

pub returns-in_ok-set_symbol-clause-ok : goal.returns-in_ok-set_symbol-clause-ok
returns-in_ok-set_symbol-clause-ok c =
    let some = rw c.requires.width at c.if-width-gt0.true in
    glyph_written c.args.clip c.args.at.x c.args.at.y (glyph_of c.args.grapheme.now) _ _ _ c.requires.inside some c.in_ok-set_symbol.ensures.ok c.set_style.ensures
