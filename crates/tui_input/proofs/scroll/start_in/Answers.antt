use Rattle.std.proofs.Common.{ap, map, ◌∷◌, [], ◌∙◌, arith}
use Rattle.std.proofs.lemmas.List.{map-append}
use Rattle.std.specs.Option.{option_copied}
use Rattle.std.specs.Prelude.{unwrap_or}
use Rattle.tui_input.specs.Scroll.{shown}
use Rattle.tui_input.proofs.Starts.{IsCounting-end, IsCounting-stop}
use Rattle.tui_input.proofs.scroll.start_in.Goals as goal

pub returns-then-width-free : goal.returns-then-width-free
returns-then-width-free c =
    let mask = option_copied c.args.mask in
    let last = ap (map (unwrap_or mask)) c.in-Some.ensures.steps ∙ map-append (unwrap_or mask) _ (c.in-Some.grapheme.now ∷ []) in
    IsCounting-stop c.args.room (shown mask c.args.text.now) _ _ _ _ _ c.loop-grapheme.invariant last (omega (arith, c.masked_width-width.ensures, c.if-width-free.true))

pub returns : goal.returns
returns c =
    let mask = option_copied c.args.mask in
    IsCounting-end c.args.room (shown mask c.args.text.now) _ _ _ c.loop-grapheme.invariant (ap (map (unwrap_or mask)) c.in_default.ensures.steps.0)
