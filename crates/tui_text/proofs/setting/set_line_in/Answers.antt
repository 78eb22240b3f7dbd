use Rattle.std.proofs.Common.{rules}
use Rattle.tui_text.proofs.Settings.{kept_in_clip, kept_part}
use Rattle.tui_text.proofs.setting.set_line_in.Goals as goal

pub returns-clause-kept : goal.returns-clause-kept
returns-clause-kept c = kept_in_clip c.args.clip c.args.at _ c.args.room _ _ _ (search rules) (search rules) c.set_spans.ensures.kept

pub returns-clause-part : goal.returns-clause-part
returns-clause-part c = kept_part c.args.clip c.args.at _ c.args.room _ _ _ (search rules) (search rules)
    (rw (c.line_style.ensures, c.spans.ensures) at c.set_spans.ensures.kept)
