use Rattle.tui_frames.proofs.Inside.{inside}
use Rattle.tui_frames.proofs.laws.block_laws.Goals as goal

pub returns : goal.returns
returns c = record { inside = inside }
