use Rattle.tui_print.proofs.Unique.{cell_run, one_list, one_print, print_exists, runs_exist}
use Rattle.tui_print.proofs.laws.print_laws.Goals as goal

pub returns : goal.returns
returns c = record {
  runs = λ row. let found = runs_exist row in (found.0, found.1, λ others are. one_list row found.0 others found.1 are);
  cells = cell_run;
  print = λ screen placed. let found = print_exists screen placed in (found.0, found.1, λ other is. one_print screen placed found.0 other found.1 is);
}
