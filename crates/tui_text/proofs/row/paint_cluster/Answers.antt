use Rattle.std.proofs.Common.{◌-◌, ◌^◌, arith}
use Rattle.tui_text.specs.Graphemes.{glyph_in}
use Rattle.tui_text.proofs.RowStrokes.{shown_one}
use Rattle.tui_text.proofs.row.paint_cluster.Goals as goal

pub returns-clause-shown : goal.returns-clause-shown
returns-clause-shown c = λ more.
    shown_one c.args.row c.args.skip c.args.place _ (2 ^ 64 - 1) (glyph_in c.args.style c.args.symbol.now) more _ _
    (omega (arith, c.requires)) (rw c.cell_width-width.ensures at c.saturating_add.ensures) c.in_ok-paint_glyph.ensures.ok
