-- What a demonstration draws and writes.
use Rattle.std.proofs.Common.{◌≡◌, ℕ, ◌≤◌, ◌==◌, false, List, ◌++◌, length, map, flat_map, refl, ap, subst, ◌∙◌, arith}
use Rattle.std.proofs.lemmas.Bool.Decides.{nat_tests}
use Rattle.std.proofs.lemmas.List.FromFn.{length-map-range_with_len}
use Rattle.tui_cells.specs.Buffer.{Screen}
use Rattle.tui_cells.specs.Rect.{area_of}
use Rattle.tui_cells.specs.declared.rect.Rect.{Rect}
use Rattle.tui_show_run.specs.Demo.Line.{demo_line}
use Rattle.tui_show_run.specs.Demo.Scene.{HasLines, demo_item, demo_items, demo_list, demo_scene, demo_state}
use Rattle.tui_show_run.proofs.ItemLists.{heights_of-demo_items}
use Rattle.tui_lists.specs.List.{list_after}
use Rattle.tui_rows.specs.RowLine.{row_line}
use Rattle.tui_scene.specs.Item.{PlacedData, placed_after}
use Rattle.tui_show_run.specs.Demo.{IsDemo, demo_offset, first_offset}
use Rattle.tui_scene.specs.Drawn.{IsDrawn}

-- the state after drawing the list
offset_moved : (n : ℕ) → 1 ≤ n → (list_after (demo_list n) (area_of 0 0 20 8) (demo_state n)).offset ≡ demo_offset n
unfolding list_after
offset_moved n some =
    let long : length (demo_items n) ≡ n = length-map-range_with_len demo_item 0 n in
    let none : (n == 0) ≡ false = grind (arith, nat_tests) in
    rw (long, none, heights_of-demo_items n) refl

offset_left : (n : ℕ) (new : List PlacedData) (area : Rect) → 1 ≤ n → area ≡ area_of 0 0 40 8 →
    new ≡ map (placed_after area) (demo_scene n) → first_offset new ≡ demo_offset n
offset_left n new area some is states =
    ap first_offset (states ∙ ap (λ (r : Rect). map (placed_after r) (demo_scene n)) is) ∙ offset_moved n some

-- the line and the rows
pub demo_is : (n lines offset : ℕ) (old new : List PlacedData) (screen : Screen) (line : List ℕ) → 1 ≤ n → old ≡ demo_scene n →
    HasLines n lines → IsDrawn 40 8 old new screen →
    offset ≡ first_offset new → line ≡ demo_line n offset lines → IsDemo n (line ++ flat_map row_line screen.rows)
demo_is n lines offset old new screen line some is has drawn read written =
    let d = subst (λ (ps : List PlacedData). IsDrawn 40 8 ps new screen) is drawn in
    let left = read ∙ offset_left n new d.first.area some d.blank_first.area_is d.states in
    record {
      lines = lines;
      has_lines = has;
      new = new;
      screen = screen;
      drawn = d;
      text_is = ap (λ (l : List ℕ). l ++ flat_map row_line screen.rows) (written ∙ ap (λ (o : ℕ). demo_line n o lines) left);
    }
