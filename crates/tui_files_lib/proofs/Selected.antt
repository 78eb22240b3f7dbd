-- The selected name is visible.
use Rattle.std.proofs.Common.{◌≡◌, ℕ, ◌-◌, ◌/◌, ◌<◌, ◌≤◌, min, zero, suc, true, false, List, [], ◌∷◌, length, map, Some, refl, sym, ap, ◌∙◌, arith}
use Rattle.std.specs.Prelude.{slice_index}
use Rattle.std.proofs.lemmas.Bool.Decides.{nat_tests}
use Rattle.std.proofs.lemmas.List.{length-map}
use Rattle.std.proofs.lemmas.Nat.{le-div}
use Rattle.tui_app.specs.EventLoop.{EventLoop, LoopState, drew, iterated}
use Rattle.tui_app_laws.specs.Showing.{WaitingShows}
use Rattle.tui_cells.specs.Buffer.{Screen}
use Rattle.tui_cells.specs.Rect.{is_empty}
use Rattle.tui_cells.specs.declared.rect.Rect.{Rect}
use Rattle.tui_files_lib.specs.Browsing.{Lists}
use Rattle.tui_files_lib.specs.Drawing.{BrowserDraws, ShowsNames, has_room, names_area, names_list, row_item, selected_row, selecting}
use Rattle.tui_files_lib.specs.Rows.{row_label}
use Rattle.tui_files_lib.specs.Laws.{NamesAreSeen, NamesAreShown, files}
use Rattle.tui_files_lib.specs.declared.browser.Browser.{Browser}
use Rattle.tui_files_lib.specs.declared.files.FilesApp.{FilesApp}
use Rattle.tui_frames.specs.InBlock.{inner_of}
use Rattle.tui_lists.specs.ListItem.{heights_of}
use Rattle.tui_terminal_model.specs.declared.output.Output.{Output}

-- a row has one line
low : (labels : List (List ℕ)) (place : ℕ) → slice_index (heights_of (map row_item labels)) place ≤ 1
low [] place = omega arith
low (l ∷ labels) zero = omega arith
low (l ∷ labels) (suc place) = low labels place

half_some : (w : ℕ) → 11 < w → 6 ≤ w / 2
half_some w wide = le-div 6 w 2 (omega arith) (omega arith)

not_empty : (w h : ℕ) (r : Rect) → r.width ≡ w → r.height ≡ h → 0 < w → 0 < h → is_empty r ≡ false
not_empty w h r we he some high = grind (arith, nat_tests)

wide_of : (area : Rect) → has_room area ≡ true → 11 < area.width
wide_of area room = grind (arith, nat_tests)

high_of : (area : Rect) → has_room area ≡ true → 4 < area.height
high_of area room = grind (arith, nat_tests)

pub names_seen : (old new : Browser) (screen : Screen) → has_room screen.area ≡ true →
    ShowsNames (names_list new) (selecting old.state) new.state screen → NamesAreSeen new screen
names_seen old new screen room shows =
    let l = names_list new in
    let inner = inner_of l.block (names_area screen.area) in
    let wide = wide_of screen.area room in
    let high = high_of screen.area room in
    let half = half_some screen.area.width wide in
    let w : 0 < inner.width = omega arith in
    let h : 1 < inner.height = omega arith in
    let some : is_empty inner ≡ false = not_empty inner.width inner.height inner refl refl w (omega arith) in
    let place = min (selected_row old.state) (length (heights_of l.items) - 1) in
    record {
      cells = shows.cells;
      selected = λ rows.
          let items : 0 < length l.items = omega (arith, length-map (map row_label new.rows.items) row_item, length-map new.rows.items row_label) in
          let at : new.state.selected ≡ Some place = shows.moves.selected some items in
          (place, at, shows.moves.seen some items place at (omega (arith, low (map row_label new.rows.items) place)));
    }

lives_drawn : (F : Type 0) (lists : F → Lists) (begin : FilesApp F) (area : Rect) (reads : List (List ℕ)) (state : LoopState (FilesApp F)) → EventLoop (files F lists) begin area reads state →
    (old : Browser) × BrowserDraws old state.screen state.place state.app.browser
lives_drawn F lists begin area _ _ (drew state is) = (begin.browser, is.draws.draws)
lives_drawn F lists begin area _ _ (iterated reads bytes flow old new event_loop iteration) = (iteration.moved.browser, iteration.draws.draws)

pub names_are_shown : (F : Type 0) (lists : F → Lists) (o : Output) → WaitingShows (files F lists) o → NamesAreShown F lists o
names_are_shown F lists o waits begin area state reads trace sent session =
    let present = waits begin area state reads trace sent session in
    let drawn = lives_drawn F lists begin area reads state present.event_loop in
    record {
      present = present;
      names = λ room. names_seen drawn.0 state.app.browser state.screen room (drawn.1.names room);
      cursor = λ room is_typing. ((drawn.1.filter_text room).typed (sym (ap (λ (b : Browser). b.is_typing) drawn.1.stays) ∙ is_typing)).0;
      other = λ small. (drawn.1.other small).0;
    }
