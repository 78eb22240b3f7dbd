use Rattle.std.proofs.Common.{sym, ◌∙◌}
use Rattle.tui_cells.proofs.Painting.{Painted-then, Painted-empty}
use Rattle.tui_para.specs.Paragraph.{paragraph_data}
use Rattle.tui_para.specs.Rendering.{content_layers}
use Rattle.tui_para.specs.Stays.{content_stays}
use Rattle.tui_para.proofs.TextOnce.{on_ok}
use Rattle.tui_para.proofs.paragraph.Paragraph.paint_content.Goals as goal

pub returns-then-is_empty-clause-ok : goal.returns-then-is_empty-clause-ok
returns-then-is_empty-clause-ok c =
    Painted-empty c.args.area c.args.buf.now (content_stays (paragraph_data c.args.self.now) c.args.area) (sym c.is_empty.ensures ∙ c.if-is_empty.true)

pub returns-clause-ok : goal.returns-clause-ok
unfolding content_layers
returns-clause-ok c = on_ok c.paint_text.result (λ painted. Painted-then c.set_style.ensures painted) c.paint_text.ensures.ok
