use Rattle.std.proofs.Common.{◌≡◌, ◌∙◌, arith, length, refl, rules, sym}
use Rattle.tui_cells.proofs.Painting.{KeptOutside-then}
use Rattle.tui_text.proofs.Elements.{if_ok, on_ok}
use Rattle.tui_clusters.proofs.OneByte.{printable_ascii}
use Rattle.tui_clusters.proofs.EmptyText.{clusters-none}
use Rattle.tui_text.proofs.Runs.{end_written, kept_written, allocation_free_after, set_written}
use Rattle.tui_text.proofs.Settings.{end_none, kept_rest, kept_run, set_none}
use Rattle.tui_text.proofs.setting.set_clusters.Goals as goal

pub set_bytes-requires : goal.set_bytes-requires
set_bytes-requires c = printable_ascii c.split_run.result.0.now c.split_run.ensures.printable

pub returns-then-is_empty-clause-ok : goal.returns-then-is_empty-clause-ok
returns-then-is_empty-clause-ok c =
    let none : length c.split_run.result.1.now ≡ 0 = grind (arith, c.is_empty.ensures) in
    set_written c.args.at.x c.args.at.y c.args.room (length c.split_run.result.0.now) c.args.style c.split_run.result.0.now _ _ _ _ _
    c.split_run.ensures.clusters c.split_run.ensures.printable (search rules) refl c.set_bytes.ensures
    (set_none _ _ _ _ _ _ (clusters-none c.split_run.result.1.now none))

pub returns-then-is_empty-clause-end : goal.returns-then-is_empty-clause-end
returns-then-is_empty-clause-end c =
    let none : length c.split_run.result.1.now ≡ 0 = grind (arith, c.is_empty.ensures) in
    sym (end_none _ _ _ (clusters-none c.split_run.result.1.now none))
    ∙ end_written c.args.at.x c.args.room _ c.split_run.result.0.now _ _ c.split_run.ensures.clusters c.split_run.ensures.printable (search rules) (search rules)

pub returns-then-is_empty-clause-kept : goal.returns-then-is_empty-clause-kept
returns-then-is_empty-clause-kept c =
    let run = c.split_run.result.0.now in
    kept_run c.args.at.x c.args.at.x c.args.room _ _ c.args.at.y _ _ _ (omega arith)
    (end_written c.args.at.x c.args.room _ run _ _ c.split_run.ensures.clusters c.split_run.ensures.printable (search rules) refl)
    (kept_written c.args.at.x c.args.at.y _ c.args.style run _ _ (omega arith) c.set_bytes.ensures)

pub returns-clause-ok : goal.returns-clause-ok
returns-clause-ok c = on_ok c.set_others.result
    (λ p. set_written c.args.at.x c.args.at.y c.args.room _ c.args.style c.split_run.result.0.now _ _ _ _ _
    c.split_run.ensures.clusters c.split_run.ensures.printable (search rules) (search rules) c.set_bytes.ensures p) c.set_others.ensures.ok

pub returns-clause-end : goal.returns-clause-end
returns-clause-end c = if_ok c.set_others.result
    (λ x p. p ∙ end_written c.args.at.x c.args.room _ c.split_run.result.0.now _ _ c.split_run.ensures.clusters c.split_run.ensures.printable (search rules) (search rules))
    c.set_others.ensures.end

pub returns-clause-kept : goal.returns-clause-kept
returns-clause-kept c =
    let run = c.split_run.result.0.now in
    KeptOutside-then
    (kept_run c.args.at.x c.args.at.x c.args.room _ _ c.args.at.y _ _ _ (omega arith)
    (end_written c.args.at.x c.args.room _ run _ _ c.split_run.ensures.clusters c.split_run.ensures.printable (search rules) refl)
    (kept_written c.args.at.x c.args.at.y _ c.args.style run _ _ (omega arith) c.set_bytes.ensures))
    (kept_rest c.args.at.x _ _ _ c.args.at.y _ _ _ (omega arith) c.set_others.ensures.kept
    (end_written c.args.at.x c.args.room _ run _ _ c.split_run.ensures.clusters c.split_run.ensures.printable (search rules) (search rules)))

pub returns-clause-allocation_free : goal.returns-clause-allocation_free
returns-clause-allocation_free c = λ all. c.set_others.ensures.allocation_free (allocation_free_after c.split_run.result.0.now _ _ c.split_run.ensures.clusters all)
