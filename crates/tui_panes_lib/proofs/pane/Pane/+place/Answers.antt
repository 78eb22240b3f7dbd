use Rattle.std.proofs.Common.{◌<◌, ◌++◌, arith, refl, ap, ◌∙◌, length}
use Rattle.tui_layout.specs.Columns.{columns_of}
use Rattle.tui_panes_lib.specs.Pane.{pane_data, sizes_data}
use Rattle.tui_panes_lib.specs.Place.{place_in}
use Rattle.tui_panes_lib.specs.declared.pane.Pane.{Pane}
use Rattle.tui_panes_lib.proofs.Placed.{same_length, column_inside, leaf_placed, near_fits, pane_placed, part_placed}
use Rattle.tui_panes_lib.proofs.pane.Pane.+place.Goals as goal

pub placing-init : goal.placing-init
placing-init t c =
    let given = c.into_iter-part-iterator.ensures.into_iter_gives in
    (refl, same_length _ _ _ _ _ _ _ (c.in_ok-sizes-in-Split.ensures ∙ ap sizes_data c.deref.ensures.value) (c.in_ok-columns-in-Split.ensures.columns ∙ ap (λ cs. columns_of c.side.result c.in-Split.spacing cs c.in-Split.flex) c.deref-in-Split.ensures.value) given.0, omega (arith, given.1, ap length given.0))

pub part_area-place-requires : goal.part_area-place-requires
part_area-place-requires t c =
    let steps = c.in-Some.ensures.steps in
    let count = c.placing.invariant.1 in
    let inside = column_inside c.in-Split.direction c.args.area _ _ _ _ _ c.in_ok-columns-in-Split.ensures.order (omega (arith, count, ap length steps.0)) c.index-column.ensures in
    near_fits c.in-Split.direction c.args.area _ _ c.side.ensures inside c.requires.right c.requires.bottom

pub placing-preserved : goal.placing-preserved
placing-preserved t c =
    let steps = c.in-Some.ensures.steps in
    let count = c.placing.invariant.1 in
    let len = c.placing.invariant.2 in
    let placed = c.in_ok-place-in-Split.ensures.ok
    ∙ ap (λ (pane : Pane). c.placing.scene ++ place_in c.part_area-place.result (pane_data pane)) c.into_pane.ensures in
    let lt : c.placing.at < length c.in_ok-columns-in-Split.columns.items = omega (arith, count, ap length steps.0) in (
      part_placed c.in-Split.direction c.args.area _ c.placing.at _ _ c.in-Some.part _ _ _ _ _ lt c.index-column.ensures steps.0 c.part_area-place.ensures placed c.placing.invariant.0,
      omega (arith, count, ap length steps.0),
      omega (arith, len, steps.1, ap length steps.0),
    )

pub returns-in-Leaf : goal.returns-in-Leaf
returns-in-Leaf t c = record { ok = leaf_placed _ c.args.area c.args.self c.in-Leaf.item _ _ c.in-Leaf.is c.push.ensures.ok }

pub returns-in-None : goal.returns-in-None
returns-in-None t c =
    let steps = c.in-None.ensures.steps in
    let len = c.placing.invariant.2 in
    let given = c.into_iter-part-iterator.ensures.into_iter_gives in
    record {
      ok = pane_placed c.in-Split.direction c.args.area c.in-Split.spacing c.placing.at _ c.in-Split.flex _ _ c.args.self c.in-Split.parts _ _ c.placing.scene c.args.scene.now c.in-Split.is given.0
          (c.in_ok-sizes-in-Split.ensures ∙ ap sizes_data c.deref.ensures.value) c.side.ensures (c.in_ok-columns-in-Split.ensures.columns ∙ ap (λ cs. columns_of c.side.result c.in-Split.spacing cs c.in-Split.flex) c.deref-in-Split.ensures.value) (omega (arith, len, steps.0)) c.placing.invariant.0;
    }
