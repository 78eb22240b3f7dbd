use Rattle.std.proofs.Common.{not, sym, ap, ◌∙◌}
use Rattle.std.proofs.lemmas.Iterator.{YieldsList-from_chars}
use Rattle.std.proofs.lemmas.Iterator.Consumers.{YieldsList-end}
use Rattle.std.proofs.lemmas.List.{map-id}
use Rattle.tui_terminal_model.specs.Symbols.{ends_chars, is_ended}
use Rattle.tui_terminal.proofs.SymbolLemmas.{ends_more}
use Rattle.tui_terminal.proofs.symbols.is_ended.Goals as goal

pub loop-c-preserved : goal.loop-c-preserved
loop-c-preserved c = ap not c.joins_next-ended.ensures ∙ sym (ends_more c.loop-c.yielded c.in-Some.c)

pub returns : goal.returns
unfolding is_ended
returns c =
    let end = YieldsList-end (YieldsList-from_chars c.args.symbol.now c.utf8.symbol cc) c.loop-c.yielded _ c.loop-c.yielded_by _ _ c.in-None.is c.next.ensures.steps in
    c.loop-c.invariant ∙ ap ends_chars (sym (map-id c.loop-c.yielded) ∙ end.0)
