use Rattle.std.proofs.Common.{◌==◌, ap, rules, tests, ℕ, Option, unwrap_or, ◌∙◌}
use Rattle.std.proofs.lemmas.Iterator.{YieldsList-from_slice}
use Rattle.std.proofs.lemmas.Iterator.Search.{position_from_yields_List}
use Rattle.tui_files_lib.proofs.rows.row_at.Goals as goal
use Rattle.tui_files_lib.specs.declared.rows.NameRow.{NameRow}

pub returns : goal.returns
returns c =
    c.unwrap_or.ensures ∙ ap (λ (o : Option ℕ). unwrap_or o 0) (position_from_yields_List (λ (row : NameRow). row.place == c.args.place) _ _ c.position.result
    c.position.ensures.ran (YieldsList-from_slice c.args.rows.now cc) (λ x b q k. search (rules, tests)))
