use Rattle.std.proofs.Common.{ap}
use Rattle.tui_pager_lib.specs.Pager.{PagerData}
use Rattle.tui_pager_lib.specs.declared.state.PagerState.{PagerState}
use Rattle.tui_pager_lib.proofs.Sound.{start_sound}
use Rattle.tui_pager_lib.proofs.Stepping.{place_of, sound_as, start_is}
use Rattle.tui_pager_lib.proofs.shown.initial_state.Goals as goal

pub line_starts-requires : goal.line_starts-requires
line_starts-requires c =
    let entries = c.args.contents.now in
    let eq = start_is entries c.args.size.width c.args.size.height _ _ _ c.len-count.ensures c.first_entry-selected.ensures c.scroll_to_selection-state.ensures in
    place_of entries c.args.size.width c.args.size.height _ (sound_as entries c.args.size.width c.args.size.height _ _ eq (start_sound entries c.args.size.width c.args.size.height))

pub returns-clause-up_to_date : goal.returns-clause-up_to_date
returns-clause-up_to_date c =
    let entries = c.args.contents.now in
    let eq = start_is entries c.args.size.width c.args.size.height _ _ _ c.len-count.ensures c.first_entry-selected.ensures c.scroll_to_selection-state.ensures in
    record {
      sound = sound_as entries c.args.size.width c.args.size.height _ _ eq (start_sound entries c.args.size.width c.args.size.height);
      line_starts = c.in_ok-line_starts.ensures;
    }

pub returns-clause-is : goal.returns-clause-is
returns-clause-is c =
    let entries = c.args.contents.now in
    let eq = start_is entries c.args.size.width c.args.size.height _ _ _ c.len-count.ensures c.first_entry-selected.ensures c.scroll_to_selection-state.ensures in
    let of : PagerState → PagerData = λ s. record { width = c.args.size.width; height = c.args.size.height; entries = entries; state = s } in
    ap of eq
