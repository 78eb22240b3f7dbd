use Rattle.std.proofs.Common.{◌≡◌, true, refl, ◌∙◌, sym, arith, rules}
use Rattle.tui_frames.specs.Block.{block_data, title_data}
use Rattle.tui_frames.specs.Titles.{is_in}
use Rattle.tui_frames.proofs.TitleStrokes.{from_more}
use Rattle.tui_frames.proofs.block.Block.paint_at.Goals as goal

pub returns-clause-ok : goal.returns-clause-ok
returns-clause-ok c =
    let here : is_in (block_data c.args.self.now) c.args.strip.place (title_data c.args.title.now) ≡ true = sym c.is_in.ensures ∙ search rules in
    from_more (block_data c.args.self.now) c.args.strip.clip c.args.strip.row _ c.args.column c.title_width.result _ _ c.args.strip.place
    (title_data c.args.title.now) _ _ here c.title_width.ensures refl
    (rw c.line_alignment.ensures at c.unwrap_or.ensures) (omega arith) c.in_ok-paint_title.ensures.ok
