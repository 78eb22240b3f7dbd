use Rattle.std.proofs.Common.{rules, refl}
use Rattle.tui_cells.proofs.RowWritingLaws.{written_screen}
use Rattle.tui_cells.proofs.buffer.Buffer.set_ascii_in.Goals as goal

pub returns : goal.returns
returns c = rw (← c.self.view_is) (written_screen c.self.inside.area c.self.inside.rows.items c.args.at.x c.args.at.y c.args.from c.args.to _ _ c.args.style c.args.text.now _ c.index_mut-row.result.now c.set_ascii.new.self
    c.self.invariant.screen (search rules) (search rules) (search rules) (search rules) (search rules) refl refl refl (c.index_mut-row.ensures.value) c.set_ascii.ensures)
