use Rattle.tui_terminal_laws.proofs.Depths.{depths_rest, few_parameters, names_stay, nearest_in_all, nearest_name, true_changes_nothing}
use Rattle.tui_terminal_laws.proofs.laws.colour_laws.Goals as goal

pub returns : goal.returns
returns c = record { rest = depths_rest; whole = true_changes_nothing; names = names_stay; nearest_name = nearest_name; nearest = nearest_in_all; few = few_parameters }
