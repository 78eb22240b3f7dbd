use Rattle.std.proofs.Common.{All, [], rules, sym, ◌∙◌}
use Rattle.std.proofs.lemmas.List.Elements.{All-head}
use Rattle.tui_cells.specs.Cell.{IsAllocationFree}
use Rattle.tui_clusters.specs.Shown.{clusters}
use Rattle.tui_text.specs.Setting.{styled_text}
use Rattle.tui_text.proofs.Elements.{if_ok, on_ok}
use Rattle.tui_text.proofs.Settings.{column_in, kept_in_clip, kept_part, one_end, one_kept, one_span, set_in}
use Rattle.tui_text.proofs.setting.set_stringn_in.Goals as goal

pub returns-clause-ok : goal.returns-clause-ok
returns-clause-ok c =
    on_ok c.set_clusters.result (λ p. set_in _ c.args.at _ c.args.room _ _ _ (search rules) (search rules) (one_span _ _ _ _ _ _ p)) c.set_clusters.ensures.ok

pub returns-clause-end : goal.returns-clause-end
returns-clause-end c =
    if_ok c.set_clusters.result (λ x p. column_in _ c.args.at _ c.args.room _ x (search rules) (search rules) (p ∙ sym (one_end _ _ _))) c.set_clusters.ensures.end

pub returns-clause-kept : goal.returns-clause-kept
returns-clause-kept c = kept_in_clip c.args.clip c.args.at (styled_text c.args.text.now c.args.style) c.args.room _ _ _ (search rules) (search rules)
    (one_kept _ _ _ _ _ _ c.set_clusters.ensures.kept)

pub returns-clause-part : goal.returns-clause-part
returns-clause-part c = kept_part c.args.clip c.args.at (styled_text c.args.text.now c.args.style) c.args.room _ _ _ (search rules) (search rules)
    (one_kept _ _ _ _ _ _ c.set_clusters.ensures.kept)

pub returns-clause-allocation_free : goal.returns-clause-allocation_free
returns-clause-allocation_free c all = c.set_clusters.ensures.allocation_free (All-head (λ s. All IsAllocationFree (clusters s.content)) (record { content = c.args.text.now; style = c.args.style }) [] all)
