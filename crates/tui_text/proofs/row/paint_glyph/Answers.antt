use Rattle.std.proofs.Common.{sym}
use Rattle.tui_text.proofs.RowStays.{glyph_kept}
use Rattle.tui_text.proofs.row.paint_glyph.Goals as goal

pub returns-in-Some-clause-kept : goal.returns-in-Some-clause-kept
returns-in-Some-clause-kept c = glyph_kept c.args.row c.args.skip c.args.place c.args.width c.in-Some.x _ _ (sym c.in-Some.ensures.is) c.write_glyph.ensures.kept
