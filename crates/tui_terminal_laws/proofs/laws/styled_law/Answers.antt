use Rattle.tui_terminal_laws.proofs.Plain.{styled_plain}
use Rattle.tui_terminal_laws.proofs.StyledOnce.{styled_one}
use Rattle.tui_terminal_laws.proofs.StyledSafe.{styled_safe}
use Rattle.tui_terminal_laws.proofs.laws.styled_law.Goals as goal

pub returns : goal.returns
returns c = record { plain = styled_plain; one = styled_one; safe = styled_safe }
