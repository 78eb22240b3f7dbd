-- The widget at an index of a scene.
use Rattle.std.proofs.Common.{◌≡◌, ℕ, ◌<◌, List, map, length, get_or, set, ◌∙◌, ap, sym, subst, arith, Result, Ok, Err, OnOk, OnErr}
use Rattle.std.proofs.lemmas.List.{get_or-map, get_or-set_same, length-map, map-set, set-get_or}
use Rattle.tui_cells.specs.declared.rect.Rect.{Rect}
use Rattle.tui_cells.specs.Buffer.{Screen}
use Rattle.tui_scene.specs.Item.{PlacedData, placed_after}
use Rattle.tui_scene.specs.Scene.{DrawStep, no_widget, placed_at}

-- the widget at an index, in a list whose elements each represent a widget
pub there : {A : Type 0} (f : A → PlacedData) (xs : List A) (ps : List PlacedData) (i : ℕ) (x : A) →
    map f xs ≡ ps → i < length ps → x ≡ get_or xs i x → placed_at ps i ≡ f x
there f xs ps i x all lt at =
    let within : i < length xs = omega (arith, length-map xs f, ap length all) in
    subst (λ (qs : List PlacedData). placed_at qs i ≡ f x) all (get_or-map f xs i x no_widget within ∙ sym (ap f at))

-- the same after it was replaced
there_now : {A : Type 0} (f : A → PlacedData) (xs : List A) (ps : List PlacedData) (i : ℕ) (q : A) →
    map f xs ≡ ps → i < length ps → placed_at (map f (set xs i q)) i ≡ f q
there_now f xs ps i q all lt =
    let within : i < length (map f xs) = omega (arith, ap length all) in
    ap (λ (qs : List PlacedData). placed_at qs i) (map-set f xs i q) ∙ get_or-set_same (map f xs) i (f q) no_widget within

-- a widget was replaced
pub set_there : {A : Type 0} (f : A → PlacedData) (xs : List A) (ps : List PlacedData) (i : ℕ) (q : A) →
    map f xs ≡ ps → map f (set xs i q) ≡ set ps i (f q)
set_there f xs ps i q all = map-set f xs i q ∙ ap (λ (qs : List PlacedData). set qs i (f q)) all

-- one step of the widget at an index
pub step_there : {T E A : Type 0} (result : Result T E) (f : A →
    PlacedData) (xs : List A) (ps : List PlacedData) (i : ℕ) (x q : A) (before after : Screen) →
    map f xs ≡ ps → i < length ps → x ≡ get_or xs i x → OnOk result (DrawStep (f x) (f q) before after) →
    OnOk result (DrawStep (placed_at ps i) (placed_at (map f (set xs i q)) i) before after)
step_there result f xs ps i x q before after all lt at step =
    subst (λ (p : PlacedData). OnOk result (DrawStep p (placed_at (map f (set xs i q)) i) before after)) (sym (there f xs ps i x all lt at))
    (subst (λ (p : PlacedData). OnOk result (DrawStep (f x) p before after)) (sym (there_now f xs ps i q all lt)) step)

-- its state is updated, and no other state
pub moved_there : {T E A : Type 0} (result : Result T E) (f : A → PlacedData) (xs : List A) (ps : List PlacedData) (i : ℕ) (x q : A) (area : Rect) →
    map f xs ≡ ps → i < length ps → x ≡ get_or xs i x → OnOk result (f q ≡ placed_after area (f x)) →
    OnOk result (map f (set xs i q) ≡ set ps i (placed_after area (placed_at ps i)))
moved_there (Ok t) f xs ps i x q area all lt at moved =
    set_there f xs ps i q all ∙ ap (set ps i) (moved ∙ ap (placed_after area) (sym (there f xs ps i x all lt at)))
moved_there (Err e) f xs ps i x q area all lt at moved = tt

-- no state is updated
pub kept_there : {T E A : Type 0} (result : Result T E) (f : A → PlacedData) (xs : List A) (ps : List PlacedData) (i : ℕ) (x q : A) →
    map f xs ≡ ps → i < length ps → x ≡ get_or xs i x → OnErr result (f q ≡ f x) → OnErr result (map f (set xs i q) ≡ ps)
kept_there (Ok t) f xs ps i x q all lt at kept = tt
kept_there (Err e) f xs ps i x q all lt at kept =
    set_there f xs ps i q all ∙ (ap (set ps i) (kept ∙ sym (there f xs ps i x all lt at)) ∙ set-get_or ps i no_widget)
