use Rattle.std.proofs.Common.{List, ℕ, Some, map, refl, ap, ap₂, ◌∙◌}
use Rattle.tui_files_lib.proofs.Shown.{shows_names}
use Rattle.tui_files_lib.proofs.Typed.{draws_filter, still_shows}
use Rattle.tui_files_lib.proofs.browser.Browser.draw_in_room.Goals as goal
use Rattle.tui_files_lib.specs.Drawing.{list_over, names_list, row_item, selecting}
use Rattle.tui_files_lib.specs.Rows.{row_label}
use Rattle.tui_files_lib.specs.declared.browser.Browser.{Browser}
use Rattle.tui_files_lib.specs.declared.rows.NameRow.{NameRow}

pub returns-clause-names : goal.returns-clause-names
returns-clause-names c =
    let s = c.args.self.now.state in
    let before = c.with_selected-self.ensures ∙ ap (λ (row : ℕ). record s { selected = Some row }) c.row.ensures in
    let same = ap₂ (λ (rows : List NameRow) (title : List ℕ). list_over (map row_item (map row_label rows)) title) c.deref.ensures.value c.as_str-title.ensures.value in
    still_shows (names_list c.draw_below.new.self) _ (selecting s) c.draw_below.new.self.state _ c.draw_below.new.buf
    (ap (λ (b : Browser). names_list b) c.in_ok-place.ensures.stays) (ap (λ (b : Browser). b.state) c.in_ok-place.ensures.stays)
    (shows_names _ _ c.with_selected-self.result (selecting s) _ _ _ _ _ c.args.buf.now _ _ _ same before c.area-area.ensures c.names_area.ensures
    c.head_area.ensures refl c.height-height.ensures.shape c.requires.filled c.in_ok-draw_names.ensures.ok c.in_ok-draw_names.ensures.moves
    c.in_ok-draw_head.ensures c.in_ok-place.ensures.kept)

pub returns-clause-filter_text : goal.returns-clause-filter_text
returns-clause-filter_text c =
    draws_filter c.args.self.now c.draw_below.new.self c.args.buf.now c.draw_names.new.buf c.draw_head.new.buf c.draw_below.new.buf c.area-area.result c.in_ok-place.place
    c.area-area.ensures c.height-height.ensures.shape c.requires.room c.in_ok-draw_names.ensures.ok.area c.in_ok-draw_head.ensures.area
    c.in_ok-place.ensures.kept.area c.in_ok-place.ensures.typed c.in_ok-place.ensures.other
