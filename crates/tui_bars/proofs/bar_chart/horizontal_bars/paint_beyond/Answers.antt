use Rattle.std.proofs.Common.{arith}
use Rattle.tui_bars.proofs.Walks.{beyond_painted}
use Rattle.tui_bars.proofs.bar_chart.horizontal_bars.paint_beyond.Goals as goal

pub returns-clause-ok : goal.returns-clause-ok
returns-clause-ok c =
    beyond_painted _ c.args.plan c.args.middle c.args.filled c.char_start_from-from.result c.args.styled.text.now c.args.styled.style _ _
    (omega arith) c.char_start_from-from.ensures.is c.paint_rest.ensures.ok
