-- Widgets on a page, each in its own area.
use Rattle.std.proofs.Common.{◌≡◌, ℕ, ◌+◌, ◌^◌, ◌<◌, true, List, Option, None, Some, IfSome, option_map, ap, ◌∙◌, subst, sym, arith}
use Rattle.std.proofs.lemmas.Bool.{cond-true}
use Rattle.tui_cells.specs.Buffer.{IsFilled, IsScreen, Screen, cell_at, look_at}
use Rattle.tui_cells.specs.Cell.{blank, wipe}
use Rattle.tui_cells.specs.Layers.{Layer, Painted, layers_at, stroke}
use Rattle.tui_cells.specs.Rect.{covers}
use Rattle.tui_cells.specs.declared.rect.Rect.{Rect}
use Rattle.tui_pager_lib.specs.Laws.{SelectsEntry}
use Rattle.tui_pager_lib.specs.Screen.{IsDrawnOnBlank}

-- layers on a blank buffer
pub drawn : {layers : List Layer} (filled area : Rect) (a b : Screen) → filled ≡ area → IsFilled filled blank a → Painted layers a b → IsScreen b →
    IsDrawnOnBlank layers area b
drawn {layers = layers} filled area a b same first painted shape =
    let k : IsFilled area blank a = subst (λ (r : Rect). IsFilled r blank a) same first in
    record {
      area_is = painted.area ∙ k.area_is;
      cells = λ x y here. painted.cells x y ∙ ap (option_map (layers_at layers x y)) (k.cells x y here);
      shape = shape;
    }

-- an area that is wiped is blank
pub wiped : (page : Rect) (a b : Screen) → a.area ≡ page → Painted (stroke (covers page) wipe) a b → IsFilled page blank b
wiped page a b same painted = record {
  area_is = painted.area ∙ same;
  cells = λ x y here.
      let there : covers a.area x y ≡ true = subst (λ (r : Rect). covers r x y ≡ true) (sym same) here in
      let held : cell_at a x y ≡ Some (look_at a x y) = cond-true _ _ _ there in
      painted.cells x y ∙ (ap (option_map (layers_at (stroke (covers page) wipe) x y)) held ∙ ap Some (cond-true (covers page x y) blank (look_at a x y) here));
}

-- the index of an entry plus one is less than 2 ^ 64
pub place_small : (count : ℕ) (selected : Option ℕ) → count < 2 ^ 64 → SelectsEntry count selected → IfSome selected (λ place. place + 1 < 2 ^ 64)
place_small count None few there = tt
place_small count (Some place) few there = omega arith
