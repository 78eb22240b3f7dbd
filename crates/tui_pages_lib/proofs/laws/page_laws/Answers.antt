use Rattle.tui_pages_lib.proofs.Numbers.{numbers_are_columns}
use Rattle.tui_pages_lib.proofs.UniquePages.{pages_are_unique, pages_are_fewest}
use Rattle.tui_pages_lib.proofs.laws.page_laws.Goals as goal

pub returns : goal.returns
returns c = record { one = pages_are_unique; fewest = pages_are_fewest; number = numbers_are_columns }
