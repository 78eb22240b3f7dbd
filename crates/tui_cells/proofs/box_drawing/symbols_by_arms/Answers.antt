use Rattle.std.proofs.Common.{refl}
use Rattle.tui_cells.specs.BoxDrawing.{plain_table, symbol_in}
use Rattle.tui_cells.specs.Chart.{all_arms, symbols_by_arms}
use Rattle.tui_cells.proofs.box_drawing.symbols_by_arms.Goals as goal

pub returns : goal.returns
unfolding symbols_by_arms all_arms plain_table symbol_in lib.Utf8.encode
returns c = refl
