use Rattle.std.proofs.Common.{length, refl, ap, ◌∙◌}
use Rattle.std.proofs.lemmas.Option.{slice_get_read}
use Rattle.tui_files_lib.proofs.Listed.{labels_with, places_with, places_without}
use Rattle.tui_files_lib.proofs.rows.rows_of.Goals as goal
use Rattle.tui_files_lib.specs.Rows.{is_wanted}
use Rattle.tui_files_lib.proofs.rows.rows_of.Goals.{then-takes+in_ok-label+in_ok-push, else-takes}

pub loop-place-preserved : goal.loop-place-preserved
loop-place-preserved c =
    let w = c.args.name_filter in
    let names = c.args.names.now in
    let place = c.loop-place.place in
    let name = c.index-names-place.result in
    let rows = c.loop-place.rows.items in
    let at = slice_get_read names (length names) place name refl c.loop-place-test.true c.index-names-place.is in
    let takes_is = c.takes.ensures ∙ ap (is_wanted w.hidden w.filter_text.now) c.as_str.ensures.value in
    elim c.if-takes.branch [
      | then-takes+in_ok-label+in_ok-push t ↦ rw t.rows-is (record {
        places = places_with w.hidden w.filter_text.now names place name c.takes.result rows _ _ at takes_is t.if-takes.true c.loop-place.invariant.places refl t.in_ok-push.ensures.items;
        labels = labels_with names place name rows _ _ at c.loop-place.invariant.labels refl t.in_ok-label.ensures t.in_ok-push.ensures.items;
      })
      | else-takes e ↦ rw e.rows-is (record {
        places = places_without w.hidden w.filter_text.now names place name c.takes.result rows at takes_is e.if-takes.false c.loop-place.invariant.places;
        labels = c.loop-place.invariant.labels;
      })
    ]
