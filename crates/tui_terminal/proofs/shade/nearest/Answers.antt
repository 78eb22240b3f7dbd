use Rattle.std.proofs.Common.{◌+◌, drop, sym, ap, ◌∙◌, arith}
use Rattle.tui_terminal_model.specs.Colours.{Named, nearest_of}
use Rattle.tui_terminal.specs.Shades.{all_named, channels_of, named_of}
use Rattle.tui_terminal.proofs.Nearest.{nearest_all, nearest_more}
use Rattle.tui_terminal.proofs.shade.nearest.Goals as goal

pub others-preserved : goal.others-preserved
others-preserved c =
    let channels = channels_of c.args.channels in
    let others = c.args.others.now in
    let more = nearest_more channels (named_of c.others.best) others c.others.place _ c.others-test.true in
    ap (λ (best : Named). nearest_of channels best (all_named (drop (c.others.place + 1) others))) c.nearer-best.ensures ∙ (sym more ∙ c.others.invariant)

pub returns : goal.returns
returns c =
    sym (nearest_all (channels_of c.args.channels) (named_of c.others.best) c.args.others.now c.others.place (omega (arith, c.others-test.false))) ∙ c.others.invariant
