-- Panes without shadows: drawing and changing them gives the same as drawing the final ones.
use Rattle.std.proofs.Common.{◌≡◌, ℕ, zero, suc, ◌<◌, List, [], ◌∷◌, length, set, map, All, refl, sym, ap, ◌∙◌, subst}
use Rattle.std.specs.List.{AllByRecursion}
use Rattle.std.proofs.lemmas.List.{length-map, length-set, map-set}
use Rattle.std.proofs.lemmas.List.Elements.{recursion_from_All}
use Rattle.tui_cells.specs.declared.rect.Rect.{Rect}
use Rattle.tui_cells.specs.Buffer.{IsFilled, Screen}
use Rattle.tui_cells.specs.Cell.{blank}
use Rattle.tui_cells.specs.Layers.{Painted}
use Rattle.tui_scene.specs.Item.{PlacedData, placed_after}
use Rattle.tui_scene.specs.Laws.{Draws}
use Rattle.tui_scene.specs.Redraw.{AreReplaced, IsFresh, IsReplaced, AreDisjointItems}
use Rattle.tui_scene.specs.Scene.{placed_at, scene_layers}
use Rattle.tui_scene.specs.Shadow.{HasNoShadow}
use Rattle.tui_scene.proofs.Freshness.{order_is_irrelevant, scene_repeats, stays_fresh}
use Rattle.tui_scene.proofs.Strokes.{states_stable}
use Rattle.tui_panes_lib.specs.Replace.{item_in_leaf}
use Rattle.tui_panes_lib.proofs.DisjointLeaves.{are_disjoint_within}
use Rattle.tui_panes_lib.proofs.AreDisjointItems.{are_disjoint_items}
use Rattle.tui_panes_run.specs.Changes.{ChangeData}
use Rattle.tui_panes_run.specs.Input.{InputData}
use Rattle.tui_panes_run.specs.Laws.{AreDrawnFromBlank, HasNoShadows, PrintsAsFromBlank, leaves_after}
use Rattle.tui_panes_run.specs.Order.{numbers_of}
use Rattle.tui_panes_run.specs.Shown.{AreChanged, ArePanesDrawn, changed, leaves_of, screen_area}
use Rattle.tui_panes_run.specs.declared.order.Order.{Order}
use Rattle.tui_panes_run.proofs.Accepted.{accepted}
use Rattle.tui_panes_run.proofs.Numbers.{is_order}

-- changes are replacements of existing leaves, by widgets without shadows

as_replaced : Rect → List PlacedData → List ChangeData → List (ℕ × PlacedData)
as_replaced buffer leaves [] = []
as_replaced buffer leaves (c ∷ cs) = (c.leaf, item_in_leaf leaves c.leaf c.item) ∷ as_replaced buffer (changed buffer leaves c) cs

abbrev AreBelow : ℕ → List ChangeData → Type 0
AreBelow n changes = AllByRecursion (λ (c : ChangeData). c.leaf < n) changes

abbrev AreWithout : List ChangeData → Type 0
AreWithout changes = AllByRecursion (λ (c : ChangeData). HasNoShadow c.item) changes

are_replaced : (n : ℕ) (leaves : List PlacedData) (before : Screen) (changes : List ChangeData) (last : List PlacedData) (after : Screen) →
    length leaves ≡ n → AreBelow n changes → AreWithout changes → AreChanged leaves before changes last after →
    AreReplaced leaves before (as_replaced before.area leaves changes) last after
unfolding as_replaced
are_replaced n leaves before [] last after long below plain done = done
are_replaced n leaves before (c ∷ cs) last after long below plain done =
    let step = done.1 in
    let first : IsReplaced leaves c.leaf (item_in_leaf leaves c.leaf c.item) before done.0 = record {
      within = subst (λ (k : ℕ). c.leaf < k) (sym long) below.0;
      same_area = refl;
      no_shadow = plain.0;
      reset = step.reset;
      is_reset = step.is_reset;
      strokes = step.strokes;
    } in
    let next = changed before.area leaves c in
    let rest = are_replaced n next done.0 cs last after (length-set leaves c.leaf _ ∙ long) below.1 plain.1 done.2 in
    (done.0, first, subst (λ (r : Rect). AreReplaced next done.0 (as_replaced r next cs) last after) (step.strokes.area ∙ step.is_reset.area) rest)

-- changes keep the buffer's area
changed_area : (leaves : List PlacedData) (before : Screen) (changes : List ChangeData) (last : List PlacedData) (after : Screen) →
    AreChanged leaves before changes last after → after.area ≡ before.area
changed_area leaves before [] last after done = ap (λ (s : Screen). s.area) done.1
changed_area leaves before (c ∷ cs) last after done =
    changed_area (changed before.area leaves c) done.0 cs last after done.2 ∙ done.1.strokes.area ∙ done.1.is_reset.area

-- the final leaves

same_area : (buffer : Rect) (leaves : List PlacedData) (i : ℕ) → (placed_at (map (placed_after buffer) leaves) i).area ≡ (placed_at leaves i).area
same_area buffer [] i = refl
same_area buffer (p ∷ ps) zero = refl
same_area buffer (p ∷ ps) (suc i) = same_area buffer ps i

changed_after : (buffer : Rect) (leaves : List PlacedData) (c : ChangeData) →
    changed buffer (map (placed_after buffer) leaves) c ≡ map (placed_after buffer) (set leaves c.leaf (item_in_leaf leaves c.leaf c.item))
changed_after buffer leaves c =
    ap (λ (r : Rect). set (map (placed_after buffer) leaves) c.leaf (placed_after buffer (record { area = r; item = c.item })))
    (same_area buffer leaves c.leaf)
    ∙ sym (map-set (placed_after buffer) leaves c.leaf (item_in_leaf leaves c.leaf c.item))

last_is : (buffer : Rect) (leaves now : List PlacedData) (before : Screen) (changes : List ChangeData) (last : List PlacedData) (after : Screen) →
    before.area ≡ buffer → now ≡ map (placed_after buffer) leaves → AreChanged now before changes last after →
    last ≡ map (placed_after buffer) (leaves_after leaves changes)
last_is buffer leaves now before [] last after in_area is done = done.0 ∙ is
last_is buffer leaves now before (c ∷ cs) last after in_area is done =
    last_is buffer (set leaves c.leaf (item_in_leaf leaves c.leaf c.item)) (changed before.area now c) done.0 cs last after
    (done.1.strokes.area ∙ done.1.is_reset.area ∙ in_area)
    (ap (λ (r : Rect). changed r now c) in_area ∙ ap (λ (ps : List PlacedData). changed buffer ps c) is ∙ changed_after buffer leaves c) done.2

-- the leaves of a tree do not overlap and have no shadows
apart : (input : InputData) → HasNoShadows input → AreDisjointItems (leaves_of input)
apart input plain = are_disjoint_items (screen_area input) (leaves_of input) (are_disjoint_within (screen_area input) input.root) plain.0

-- after the first drawing and all changes the screen is fresh: the final leaves draw it on a blank buffer
fresh_at_last : (o : Order) (input : InputData) (last : List PlacedData) (screen : Screen) →
    All (λ (c : ChangeData). c.leaf < length (leaves_of input)) input.changes → HasNoShadows input →
    ArePanesDrawn (numbers_of o (length (leaves_of input))) (screen_area input) (leaves_of input) input.changes last screen → IsFresh last screen
fresh_at_last o input last screen below plain d =
    let leaves = leaves_of input in
    let count = length leaves in
    let is = d.blank_first.area_is in
    let filled : IsFilled d.first.area blank d.first = subst (λ (r : Rect). IsFilled r blank d.first) (sym is) d.blank_first in
    let draws : Draws leaves d.moved d.first d.drawn = record {
      cells = order_is_irrelevant leaves (numbers_of o count) d.first d.drawn (apart input plain) (is_order o count) d.strokes.cells;
      states = d.states ∙ ap (λ (r : Rect). map (placed_after r) leaves) (sym is);
    } in
    let long : length d.moved ≡ count = ap length d.states ∙ length-map leaves (placed_after (screen_area input)) in
    let below_all : AreBelow count input.changes = recursion_from_All (λ (c : ChangeData). c.leaf < count) input.changes below in
    let plain_all : AreWithout input.changes = recursion_from_All (λ (c : ChangeData). HasNoShadow c.item) input.changes plain.1 in
    stays_fresh leaves d.moved last (as_replaced d.drawn.area d.moved input.changes) d.first d.drawn screen (apart input plain) filled draws
    (are_replaced count d.moved d.drawn input.changes last screen long below_all plain_all d.changed)

-- a fresh screen is what the widgets draw that have these states after a drawing
pub from_blank : (input : InputData) (last : List PlacedData) (screen : Screen) → screen.area ≡ screen_area input →
    last ≡ map (placed_after (screen_area input)) (leaves_after (leaves_of input) input.changes) → IsFresh last screen → AreDrawnFromBlank input last screen
from_blank input last screen in_area is fresh =
    let leaves_now = leaves_after (leaves_of input) input.changes in
    let area = fresh.first.area in
    let first_area : area ≡ screen_area input = fresh.blank_first.area_is ∙ in_area in
    let last_is : last ≡ map (placed_after area) leaves_now = is ∙ ap (λ (r : Rect). map (placed_after r) leaves_now) (sym first_area) in
    let again : Painted (scene_layers area last) fresh.first screen =
    subst (λ (r : Rect). Painted (scene_layers r last) fresh.first screen) (sym fresh.blank_first.area_is) fresh.strokes in
    let strokes : scene_layers area last ≡ scene_layers area leaves_now = ap (scene_layers area) last_is ∙ scene_repeats area leaves_now in
    let given : Draws leaves_now last fresh.first screen =
    record { cells = subst (λ ls. Painted ls fresh.first screen) strokes again; states = last_is } in
    let drawn : Draws last (map (placed_after area) last) fresh.first screen = record { cells = again; states = refl } in
    let rests = states_stable leaves_now last (map (placed_after area) last) fresh.first screen fresh.first screen refl given drawn in
    record {
      first = fresh.first;
      blank_first = subst (λ (r : Rect). IsFilled r blank fresh.first) in_area fresh.blank_first;
      given = given;
      again = record { cells = again; states = sym rests };
    }

pub prints_afresh : PrintsAsFromBlank
prints_afresh o d input text reads plain shown =
    let drawn = shown.drawn in
    let in_area : drawn.drawn.area ≡ screen_area input = drawn.strokes.cells.area ∙ drawn.blank_first.area_is in
    from_blank input shown.last shown.screen
    (changed_area drawn.moved drawn.drawn input.changes shown.last shown.screen drawn.changed ∙ in_area)
    (last_is (screen_area input) (leaves_of input) drawn.moved drawn.drawn input.changes shown.last shown.screen in_area drawn.states drawn.changed)
    (fresh_at_last o input shown.last shown.screen ((accepted d input reads).leaves_are _) plain drawn)
