use Rattle.std.proofs.Common.{◌≡◌, true, refl, ◌∙◌, sym, arith, rules}
use Rattle.tui_frames.specs.Block.{block_data, title_data}
use Rattle.tui_frames.specs.Titles.{is_in}
use Rattle.tui_frames.proofs.TitleStrokes.{cut_more}
use Rattle.tui_frames.proofs.block.Block.paint_cut_at.Goals as goal

pub returns-clause-ok : goal.returns-clause-ok
returns-clause-ok c =
    let here : is_in (block_data c.args.self.now) c.args.strip.place (title_data c.args.title.now) ≡ true = sym c.is_in.ensures ∙ search rules in
    cut_more (block_data c.args.self.now) c.args.strip.clip c.args.strip.row _ c.args.start.cut c.args.start.column c.title_width.result _ _ _ c.args.strip.place
    (title_data c.args.title.now) _ _ here c.title_width.ensures c.cut_width.ensures.is refl c.cut_alignment.ensures (omega arith)
    c.in_ok-paint_title.ensures.ok
