use Rattle.tui_pages_lib.proofs.UniquePages.{pages_found, pages_found_fewest}
use Rattle.tui_pages_lib.proofs.pages.Pages.new.Goals as goal

pub returns-clause-pages : goal.returns-clause-pages
returns-clause-pages c = pages_found _ _ _ c.requires.room c.requires.heights c.in_ok-pages.ensures

pub returns-clause-fewest : goal.returns-clause-fewest
returns-clause-fewest c = λ some bounded. λ others keep. pages_found_fewest _ _ _ c.requires.room c.requires.heights c.in_ok-pages.ensures some bounded others keep
