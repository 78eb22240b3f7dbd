use Rattle.std.proofs.Common.{◌∙◌, ap, arith, map, rules}
use Rattle.tui_pages_lib.specs.Report.{column_data, places_of}
use Rattle.tui_pages_lib.proofs.Known.{have_read}
use Rattle.tui_pages_lib.proofs.Made.{counted_heights, made, made_fewest, made_is, made_kept, measured, too_tall}
use Rattle.tui_pages_lib.proofs.report.Report.new.Goals as goal

pub returns-in-Some-clause-tall : goal.returns-in-Some-clause-tall
returns-in-Some-clause-tall c =
    let h = counted_heights c.args.width _ _ _ _ _ _ _ c.deref.ensures.value c.in_ok-places.ensures c.deref-2.ensures.value
    c.deref-3.ensures.value c.in_ok-heights.ensures in
    λ place e. too_tall c.args.width _ _ _ _ c.in-Some.place place h c.deref-4.ensures.value c.in-Some.ensures cc

pub new-requires-clause-heights : goal.new-requires-clause-heights
new-requires-clause-heights c =
    let h = counted_heights c.args.width _ _ _ _ _ _ _ c.deref.ensures.value c.in_ok-places.ensures c.deref-2.ensures.value
    c.deref-3.ensures.value c.in_ok-heights.ensures in
    (measured c.args.width _ _ _ _ _ h c.deref-4.ensures.value c.deref-5.ensures.value c.in_default.ensures).some

pub invariant_of-result : goal.invariant_of-result
invariant_of-result c =
    let h = counted_heights c.args.width _ _ _ _ _ _ _ c.deref.ensures.value c.in_ok-places.ensures c.deref-2.ensures.value
    c.deref-3.ensures.value c.in_ok-heights.ensures in
    let m = measured c.args.width _ _ _ _ _ h c.deref-4.ensures.value c.deref-5.ensures.value c.in_default.ensures in (
      made_kept c.args.width c.args.height _ _ _ _ (omega arith) (omega arith)
          (c.in_ok-places.ensures ∙ ap (λ cs. places_of c.args.width (map column_data cs)) c.deref.ensures.value)
          (made c.args.width c.args.height _ _ _ _ _ (omega arith) c.from-room.ensures m c.in_ok-pages.ensures.pages),
      have_read _ c.deref-6.result.now _ c.deref-7.result.now _ c.pieces.result.now _ c.deref-6.ensures.value c.deref-7.ensures.value c.pieces.ensures
          c.in_ok-starts.ensures,
    )

pub returns : goal.returns
returns c =
    let h = counted_heights c.args.width _ _ _ _ _ _ _ c.deref.ensures.value c.in_ok-places.ensures c.deref-2.ensures.value
    c.deref-3.ensures.value c.in_ok-heights.ensures in
    let m = measured c.args.width _ _ _ _ _ h c.deref-4.ensures.value c.deref-5.ensures.value c.in_default.ensures in
    let k = made c.args.width c.args.height _ _ _ _ _ (omega arith) c.from-room.ensures m c.in_ok-pages.ensures.pages in
    record {
      small = search rules;
      tall = search rules;
      bounded = k.bounded;
      ok = made_is c.args.width c.args.height c.args.title.now _ _ _ k;
      pages = k.are;
      fewest = made_fewest c.args.width c.args.height _ _ _ k;
    }
