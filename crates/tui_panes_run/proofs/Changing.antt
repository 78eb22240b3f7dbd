-- A drawing of all leaves, and then changes one after another.
use Rattle.std.proofs.Common.{◌≡◌, ℕ, ◌<◌, List, length, All, sym, ap, ◌∙◌, subst}
use Rattle.std.specs.List.{AllByRecursion}
use Rattle.std.proofs.lemmas.List.{length-map}
use Rattle.tui_cells.specs.declared.rect.Rect.{Rect}
use Rattle.tui_cells.specs.Buffer.{Screen}
use Rattle.tui_scene.specs.Item.{PlacedData, placed_after}
use Rattle.tui_panes_lib.specs.Draw.{panes_after}
use Rattle.tui_panes_lib.specs.Panes.{PanesData, panes_of}
use Rattle.tui_panes_run.specs.Changes.{ChangeData}
use Rattle.tui_panes_run.specs.Input.{InputData}
use Rattle.tui_panes_run.specs.Shown.{AreChanged, leaves_of, screen_area}

-- the changes that remain lead to what all changes lead to
abbrev pub ChangesGoOn : List PlacedData → Screen → List ChangeData → List PlacedData → Screen → List ChangeData → Type 0
ChangesGoOn leaves before all now screen rest =
    (last : List PlacedData) (after : Screen) → AreChanged now screen rest last after → AreChanged leaves before all last after

abbrev pub AreBelow : List PlacedData → List ChangeData → Type 0
AreBelow leaves changes = AllByRecursion (λ (c : ChangeData). c.leaf < length leaves) changes

-- a drawing keeps the number of leaves
pub still_below : (input : InputData) (placed moved : PanesData) (buffer : Rect) (changes : List ChangeData) → placed ≡ panes_of (screen_area input) input.root →
    moved ≡ panes_after buffer placed → All (λ (c : ChangeData). c.leaf < length (leaves_of input)) changes →
    All (λ (c : ChangeData). c.leaf < length moved.leaves) changes
still_below input placed moved buffer changes is after below =
    let long : length moved.leaves ≡ length (leaves_of input) =
    ap (λ (p : PanesData). length p.leaves) after ∙ length-map placed.leaves (placed_after buffer) ∙ ap (λ (p : PanesData). length p.leaves) is in
    subst (λ (n : ℕ). All (λ (c : ChangeData). c.leaf < n) changes) (sym long) below
