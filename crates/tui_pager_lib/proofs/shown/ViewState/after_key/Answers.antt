use Rattle.std.proofs.Common.{ap}
use Rattle.tui_pager_lib.specs.Laws.{press}
use Rattle.tui_pager_lib.specs.Pager.{PagerData}
use Rattle.tui_pager_lib.specs.ViewState.{pager_data}
use Rattle.tui_pager_lib.specs.declared.state.PagerState.{PagerState}
use Rattle.tui_pager_lib.proofs.Sound.{call_sound}
use Rattle.tui_pager_lib.proofs.Stepping.{place_of, sound_as}
use Rattle.tui_pager_lib.proofs.shown.ViewState.after_key.Goals as goal

pub new_line_starts-requires : goal.new_line_starts-requires
new_line_starts-requires c =
    let entries = c.args.contents.now in
    let s = c.args.self.now in
    place_of entries s.size.width s.size.height _
    (sound_as entries s.size.width s.size.height _ _ c.pressed-state.ensures.is (call_sound (pager_data entries s) (press c.args.key) c.requires.sound))

pub returns-clause-change : goal.returns-clause-change
returns-clause-change c =
    let entries = c.args.contents.now in
    let s = c.args.self.now in
    record {
      sound = sound_as entries s.size.width s.size.height _ _ c.pressed-state.ensures.is (call_sound (pager_data entries s) (press c.args.key) c.requires.sound);
      line_starts = c.in_ok-line_starts.ensures;
    }

pub returns-clause-is : goal.returns-clause-is
returns-clause-is c =
    let s = c.args.self.now in
    let of : PagerState → PagerData = λ t. record { width = s.size.width; height = s.size.height; entries = c.args.contents.now; state = t } in
    ap of c.pressed-state.ensures.is
