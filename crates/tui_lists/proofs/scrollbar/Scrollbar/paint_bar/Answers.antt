use Rattle.tui_lists.specs.Scrollbar.{scrollbar_data}
use Rattle.tui_lists.proofs.Runs.{bar_painted}
use Rattle.tui_lists.proofs.scrollbar.Scrollbar.paint_bar.Goals as goal

pub returns-clause-ok : goal.returns-clause-ok
returns-clause-ok c =
    bar_painted _ (scrollbar_data c.args.self.now) c.args.clip c.args.parts _ _ _ _ _ _ _ _ c.places-start.ensures.is c.places.ensures.is
    c.in_ok-paint_run.ensures.ok c.in_ok-paint_track.ensures.ok c.in_ok-paint_run-2.ensures.ok c.in_ok-paint_track-2.ensures.ok c.paint_run-3.ensures.ok
