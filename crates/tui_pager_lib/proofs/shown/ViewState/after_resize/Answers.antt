use Rattle.std.proofs.Common.{◌∙◌, ap, length, subst, sym}
use Rattle.tui_pager_lib.specs.PagerChange.{BringsLineStarts}
use Rattle.tui_pager_lib.specs.Laws.{resize}
use Rattle.tui_pager_lib.specs.Pager.{PagerData}
use Rattle.tui_pager_lib.specs.ViewState.{pager_data}
use Rattle.tui_pager_lib.specs.declared.state.PagerState.{PagerState}
use Rattle.tui_pager_lib.proofs.BodyLineStarts.{count_is}
use Rattle.tui_pager_lib.proofs.Changing.{have_after}
use Rattle.tui_pager_lib.proofs.Sound.{call_sound}
use Rattle.tui_pager_lib.proofs.Stepping.{place_of, sound_as}
use Rattle.tui_pager_lib.proofs.shown.ViewState.after_resize.Goals as goal

pub new_line_starts-requires : goal.new_line_starts-requires
new_line_starts-requires c =
    let s = c.args.self.now in
    place_of c.args.contents.now s.size.width s.size.height s.state c.requires.sound

pub cut-state-requires : goal.cut-state-requires
cut-state-requires c =
    let entries = c.args.contents.now in
    let s = c.args.self.now in
    let width = c.args.size.width in
    let have = have_after (pager_data entries s) width s.state.selected s.line_starts.items _ c.requires.line_starts c.in_ok-line_starts.ensures in
    ap length c.line_starts_after-lines.ensures
    ∙ count_is entries width s.state.selected _ (place_of entries s.size.width s.size.height s.state c.requires.sound) have

pub returns-clause-change : goal.returns-clause-change
returns-clause-change c =
    let entries = c.args.contents.now in
    let s = c.args.self.now in
    let size = c.args.size in
    record {
      sound = sound_as entries size.width size.height _ _ c.cut-state.ensures (call_sound (pager_data entries s) (resize size.width size.height) c.requires.sound);
      line_starts = subst (λ o. BringsLineStarts (pager_data entries s) size.width o c.in_ok-line_starts.line_starts)
          (sym (ap (λ (t : PagerState). t.selected) c.cut-state.ensures)) c.in_ok-line_starts.ensures;
    }

pub returns-clause-is : goal.returns-clause-is
returns-clause-is c =
    let size = c.args.size in
    let of : PagerState → PagerData = λ t. record { width = size.width; height = size.height; entries = c.args.contents.now; state = t } in
    ap of c.cut-state.ensures
