use Rattle.std.proofs.Common.{rules, tests, not}
use Rattle.std.proofs.lemmas.Iterator.{YieldsList-from_chars}
use Rattle.std.proofs.lemmas.Iterator.Search.{all_from_yields_List}
use Rattle.tui_schema.specs.Kinds.Symbol.{is_control, is_symbol}
use Rattle.tui_schema.proofs.kinds.symbol.is_symbol.Goals as goal

pub returns-then-text-le32 : goal.returns-then-text-le32
unfolding is_symbol
returns-then-text-le32 c =
    let all = all_from_yields_List (λ x. not (is_control x)) _ _ c.all.result c.all.ensures.ran
    (YieldsList-from_chars c.args.text.now c.utf8.text c.chars.ensures.rest) (λ x b q k. search (rules, tests)) in
    search rules
