use Rattle.std.proofs.lemmas.Bool.Decides.{same_from_decides}
use Rattle.std.proofs.lemmas.Str.Pattern.{contains_text}
use Rattle.tui_files_lib.proofs.Listed.{filter_decides}
use Rattle.tui_files_lib.proofs.rows.contains_filter.Goals as goal
use Rattle.tui_files_lib.specs.Rows.{contains_filter}

pub returns : goal.returns
returns c =
    same_from_decides c.contains.result (contains_filter c.args.filter_text.now c.args.text.now) (contains_text c.contains.result c.args.filter_text.now c.args.text.now c.contains.ensures.cases)
    (filter_decides c.args.filter_text.now c.args.text.now)
