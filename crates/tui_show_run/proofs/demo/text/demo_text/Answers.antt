use Rattle.tui_show_run.proofs.Joined.{word_more}
use Rattle.tui_show_run.proofs.demo.text.demo_text.Goals as goal

pub words-preserved : goal.words-preserved
words-preserved c =
    word_more c.args.n c.words.i _ _ _ c.words.invariant c.in_ok-push_gap.ensures
    (rw (c.letter_text.ensures, c.times.ensures) at c.in_ok-push_times.ensures)
