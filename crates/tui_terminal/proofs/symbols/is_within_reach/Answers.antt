use Rattle.std.proofs.Common.{map, sum, min, sym, ap, ◌∙◌, arith}
use Rattle.std.proofs.lemmas.Bool.Decides.{nat_tests}
use Rattle.std.proofs.lemmas.Iterator.{YieldsList-from_chars}
use Rattle.std.proofs.lemmas.Iterator.Consumers.{YieldsList-end}
use Rattle.std.proofs.lemmas.List.{map-id}
use Rattle.tui_terminal_model.specs.Terminal.{reach, reach_of}
use Rattle.tui_terminal.proofs.SymbolLemmas.{reach_more}
use Rattle.tui_terminal.proofs.symbols.is_within_reach.Goals as goal

pub loop-c-preserved : goal.loop-c-preserved
loop-c-preserved c =
    omega (arith, c.loop-c.invariant, c.saturating_add-columns.ensures, c.reach_of.ensures, reach_more c.loop-c.yielded c.in-Some.c)

pub returns : goal.returns
unfolding reach
returns c =
    let end = YieldsList-end (YieldsList-from_chars c.args.symbol.now c.utf8.symbol cc) c.loop-c.yielded _ c.loop-c.yielded_by _ _ c.in-None.is c.next.ensures.steps in
    let all = c.loop-c.invariant ∙ ap (λ cs. min (sum (map reach_of cs)) 18446744073709551615) (sym (map-id c.loop-c.yielded) ∙ end.0) in
    let small = c.requires in
    grind (arith, nat_tests)
