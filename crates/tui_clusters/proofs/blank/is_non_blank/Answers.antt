use Rattle.tui_clusters.proofs.LoneChars.{non_blank_text}
use Rattle.tui_clusters.proofs.blank.is_non_blank.Goals as goal

pub returns-in-Some : goal.returns-in-Some
returns-in-Some c = λ h.
    let ink = c.is_non_blank_char.ensures h in
    non_blank_text c.args.text.now c.in-Some.c c.in-Some.ensures.0 ink.0 ink.1
