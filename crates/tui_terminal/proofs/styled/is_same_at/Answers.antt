use Rattle.std.proofs.Common.{ap₂, sym, ◌∙◌}
use Rattle.tui_terminal.proofs.Styling.{one_pen, pen_one}
use Rattle.tui_terminal.specs.StyledCells.{is_sent_same}
use Rattle.tui_terminal.proofs.styled.is_same_at.Goals as goal

pub returns : goal.returns
returns c =
    let is = c.is_sent_same.ensures ∙ ap₂ is_sent_same c.at_depth.ensures c.at_depth-2.ensures in (
      λ yes. one_pen c.args.depth c.args.one c.args.other (sym is ∙ yes),
      λ same. is ∙ pen_one c.args.depth c.args.one c.args.other same,
    )
