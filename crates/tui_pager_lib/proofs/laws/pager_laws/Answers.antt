use Rattle.tui_pager_lib.proofs.OneScreen.{one_screen}
use Rattle.tui_pager_lib.proofs.Sound.{stays_sound, selected_is_visible}
use Rattle.tui_pager_lib.proofs.laws.pager_laws.Goals as goal

pub returns : goal.returns
returns c = record { sound = stays_sound; visible = selected_is_visible; screen = one_screen }
