use Rattle.std.proofs.Common.{ap, rules, string_bytes, tests, ℕ, Option, unwrap_or, ◌∙◌}
use Rattle.std.proofs.lemmas.Iterator.{YieldsList-from_slice}
use Rattle.std.proofs.lemmas.Iterator.Search.{position_from_yields_List}
use Rattle.std.specs.Str.{bytes_eq}
use Rattle.tui_files_lib.proofs.rows.place_of_text.Goals as goal
use Rattle.tui_files_lib.specs.declared.folders.Name.{Name}

pub returns : goal.returns
returns c =
    c.unwrap_or.ensures ∙ ap (λ (o : Option ℕ). unwrap_or o 0) (position_from_yields_List (λ (name : Name). bytes_eq (string_bytes name.text) c.args.text.now) _ _
    c.position.result c.position.ensures.ran (YieldsList-from_slice c.args.names.now cc) (λ x b q k. search (rules, tests)))
