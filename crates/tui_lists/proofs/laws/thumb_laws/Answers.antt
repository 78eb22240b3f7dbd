use Rattle.tui_lists.proofs.Thumb.{thumb_laws}
use Rattle.tui_lists.proofs.laws.thumb_laws.Goals as goal

pub returns : goal.returns
returns c = thumb_laws
