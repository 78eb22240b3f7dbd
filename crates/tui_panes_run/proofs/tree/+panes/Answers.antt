use Rattle.std.proofs.Common.{◌+◌, List, ap, drop, sym, ◌∙◌}
use Rattle.std.proofs.lemmas.Result.{err_from_is_err_and}
use Rattle.serde_json.specs.View.{view, items_view}
use Rattle.tui_json.specs.Refusals.{refused}
use Rattle.tui_panes_lib.specs.declared.pane.Part.{Part}
use Rattle.tui_panes_run.specs.Counts.{counts_data}
use Rattle.tui_panes_run.specs.Tree.{pane_in, parts_in}
use Rattle.tui_panes_run.proofs.Trees.{after, parts_end, parts_err, parts_more, split_done}
use Rattle.tui_panes_run.proofs.tree.+panes.Goals as goal

pub read_parts-returns-in_err-part : goal.read_parts-returns-in_err-part
read_parts-returns-in_err-part t c =
    let p = err_from_is_err_and c.from_residual-in_err-part.result c.from_residual-in_err-part.ensures.1 in
    rw (p.1, p.2) (parts_err (pane_in c.args.room) (refused c.in_err-part.field-0.0) c.args.number (counts_data c.loop-value.at) c.loop-value.parts.items
    c.loop-value.value-index c.args.values.now c.value-item.result _ c.loop-value-test.true c.value-item.is c.in_err-part.ensures c.loop-value.invariant)

pub read_parts-loop-value-preserved : goal.read_parts-loop-value-preserved
read_parts-loop-value-preserved t c =
    let rest = parts_in (pane_in c.args.room) c.args.number (counts_data c.in_ok-part.next) (items_view (drop (c.loop-value.value-index + 1) c.args.values.now)) in
    ap (λ (ps : List Part). after ps rest) c.in_ok-push.ensures.items
    ∙ sym (parts_more (pane_in c.args.room) c.args.number (counts_data c.loop-value.at) (counts_data c.in_ok-part.next) c.loop-value.parts.items
    c.loop-value.value-index c.args.values.now c.value-item.result c.in_ok-part.part c.loop-value-test.true c.value-item.is c.in_ok-part.ensures)
    ∙ c.loop-value.invariant

pub read_parts-returns : goal.read_parts-returns
read_parts-returns t c =
    sym c.loop-value.invariant
    ∙ parts_end (pane_in c.args.room) c.args.number (counts_data c.loop-value.at) c.loop-value.parts.items c.loop-value.value-index c.args.values.now
    c.loop-value-test.false

pub read_split-returns : goal.read_split-returns
read_split-returns t c =
    split_done _ c.args.room (counts_data c.args.counts) (counts_data c.with_split.result) (counts_data c.in_ok-parts.counts) (view c.args.value.now)
    c.in_ok-shape.shape (items_view c.in_ok-values.values.now) c.in_ok-parts.parts c.in_ok-shape.ensures c.in_ok-values.ensures.gives
    c.with_split.ensures c.in_ok-parts.ensures
