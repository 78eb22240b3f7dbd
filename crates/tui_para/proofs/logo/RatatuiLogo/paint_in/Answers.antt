use Rattle.tui_para.proofs.LogoStrokes.{logo_painted}
use Rattle.tui_para.proofs.logo.RatatuiLogo.paint_in.Goals as goal

pub returns-clause-ok : goal.returns-clause-ok
returns-clause-ok c =
    logo_painted c.paint_raw-2.result c.args.clip _ _ _ _ _ _ _ _ c.upper.ensures.is c.lower.ensures.is c.below.ensures (rw c.new.ensures at c.set_style.ensures)
    c.in_ok-paint_raw.ensures.ok c.paint_raw-2.ensures.ok
