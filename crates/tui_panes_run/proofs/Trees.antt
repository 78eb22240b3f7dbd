-- The panes of a tree, read one after another.
use Rattle.std.proofs.Common.{◌≡◌, ℕ, zero, suc, ◌+◌, ◌-◌, ◌<◌, ◌≤◌, List, [], ◌∷◌, ◌++◌, length, get_or, drop, Option, Some, None, Result, Ok, Err, Vec, Global}
use Rattle.std.proofs.Common.{refl, sym, ap, ◌∙◌, arith}
use Rattle.std.specs.Prelude.{codes}
use Rattle.std.proofs.lemmas.List.{drop_all}
use Rattle.serde_json.specs.Data.{Data, Items}
use Rattle.serde_json.specs.Find.{get}
use Rattle.serde_json.specs.View.{view, items_view}
use Rattle.serde_json.specs.declared.value.Value.{Value}
use Rattle.tui_json.specs.Refusals.{◌>>=◌, Rejects}
use Rattle.tui_json.proofs.Arrays.{items_view-drop}
use Rattle.tui_panes_lib.specs.Pane.{pane_data, parts_of}
use Rattle.tui_panes_lib.specs.Place.{PaneData, PartsData, split, no_parts, part}
use Rattle.tui_panes_lib.specs.declared.pane.Pane.{Split}
use Rattle.tui_panes_lib.specs.declared.pane.Part.{Part}
use Rattle.tui_panes_lib.proofs.Placed.{split_is}
use Rattle.tui_panes_run.specs.Counts.{CountsData, with_split}
use Rattle.tui_json.specs.Objects.{objects_within}
use Rattle.tui_panes_run.specs.Refusals.{bad_pane}
use Rattle.tui_panes_run.specs.Tree.{JsonCommand, by_parts, lone_in, pane_in, part_in, parts_in, required, shape_in, split_in, values_in}
use Rattle.tui_panes_run.specs.declared.field.PaneField.TheVariants as fields
use Rattle.tui_panes_run.specs.declared.refusal.PanesRefusal.{PanesRefusal}
use Rattle.tui_panes_run.specs.declared.shape.Shape.{Shape}

-- one test after another
bind_same : {A B R : Type 0} (r : Result A R) (f g : A → Result B R) → ((x : A) → f x ≡ g x) → (r >>= f) ≡ (r >>= g)
bind_same (Ok x) f g same = same x
bind_same (Err e) f g same = refl

bind_err : {A B R : Type 0} (r : Result A R) (e : R) (f g : A → Result B R) → r ≡ Err e → (r >>= f) ≡ (r >>= g)
bind_err (Ok x) e f g is = absurd cc
bind_err (Err x) e f g is = refl

rejected_then : {A B R : Type 0} (r : Result A R) (e : R) (f : A → Result B R) → ((x : A) → f x ≡ Err e) → (x : R) × ((r >>= f) ≡ Err x)
rejected_then (Ok x) e f is = (e, is x)
rejected_then (Err x) e f is = (x, refl)

-- without a level below there are no parts, however they would be read
pub no_values : (at : CountsData) (d : Data) → (e : PanesRefusal) × (values_in 0 at d ≡ Err e)
unfolding values_in
no_values at d =
    rejected_then (required (objects_within 1 256) (Some at.panes) fields.Parts d) (bad_pane (Some at.panes) fields.Parts) _ (λ values. refl)

after_shape : JsonCommand PaneData → CountsData → Shape → Items → Result (PaneData × CountsData) PanesRefusal
after_shape pane_of at shape values =
    parts_in pane_of at.panes (with_split at) values >>= λ parts. Ok (split shape.direction shape.spacing shape.flex parts.0, parts.1)

no_split : (a b : JsonCommand PaneData) (at : CountsData) (d : Data) → split_in a 0 at d ≡ split_in b 0 at d
unfolding split_in after_shape
no_split a b at d =
    let none = no_values at d in
    bind_same (shape_in at.panes d) (λ s. values_in 0 at d >>= after_shape a at s) (λ s. values_in 0 at d >>= after_shape b at s)
    (λ s. bind_err (values_in 0 at d) none.0 (after_shape a at s) (after_shape b at s) none.1)

last_pane : (at : CountsData) (d : Data) (parts : Option Data) → by_parts lone_in 0 at d parts ≡ by_parts (pane_in 0) 0 at d parts
last_pane at d (Some parts) = no_split lone_in (pane_in 0) at d
last_pane at d None = refl

-- a pane by the panes one level below
pane_is : (room : ℕ) (at : CountsData) (d : Data) → pane_in room at d ≡ by_parts (pane_in (room - 1)) room at d (get (codes "parts") d)
unfolding pane_in
pane_is zero at d = last_pane at d (get (codes "parts") d)
pane_is (suc room) at d =
    let e : suc room - 1 ≡ room = omega arith in
    ap (λ (n : ℕ). by_parts (pane_in n) (suc room) at d (get (codes "parts") d)) (sym e)

pub as_split : (room : ℕ) (at : CountsData) (d parts : Data) → get (codes "parts") d ≡ Some parts →
    pane_in room at d ≡ split_in (pane_in (room - 1)) room at d
as_split room at d parts is = pane_is room at d ∙ ap (by_parts (pane_in (room - 1)) room at d) is

pub as_leaf : (room : ℕ) (at : CountsData) (d : Data) → get (codes "parts") d ≡ None → pane_in room at d ≡ lone_in at d
as_leaf room at d is = pane_is room at d ∙ ap (by_parts (pane_in (room - 1)) room at d) is

-- a split whose parts are read
pub split_done : (pane_of : JsonCommand PaneData) (room : ℕ) (at mid next : CountsData) (d : Data) (s : Shape) (values : Items) (parts : Vec Part Global) →
    shape_in at.panes d ≡ Ok s → values_in room at d ≡ Ok values → mid ≡ with_split at → parts_in pane_of at.panes mid values ≡ Ok (parts_of parts.items, next) →
    split_in pane_of room at d ≡ Ok (pane_data (Split s.direction s.spacing s.flex parts), next)
unfolding split_in after_shape
split_done pane_of room at mid next d s values parts shaped valued counted read =
    ap (λ (r : Result Shape PanesRefusal). r >>= λ s. values_in room at d >>= after_shape pane_of at s) shaped
    ∙ ap (λ (r : Result Items PanesRefusal). r >>= after_shape pane_of at s) valued
    ∙ ap (λ (r : Result (PartsData × CountsData) PanesRefusal). r >>= λ ps. Ok (split s.direction s.spacing s.flex ps.0, ps.1))
    (ap (λ (c : CountsData). parts_in pane_of at.panes c values) (sym counted) ∙ read)
    ∙ ap (λ (p : PaneData). Ok (p, next)) (sym (split_is s.direction s.spacing s.flex parts))

-- some parts, and then others
abbrev pub before : List Part → PartsData → PartsData
before [] rest = rest
before (p ∷ ps) rest = part p.size (pane_data p.pane) (before ps rest)

before-one : (ps : List Part) (p : Part) (rest : PartsData) → before ps (part p.size (pane_data p.pane) rest) ≡ before (ps ++ p ∷ []) rest
before-one [] p rest = refl
before-one (q ∷ ps) p rest = ap (part q.size (pane_data q.pane)) (before-one ps p rest)

before-none : (ps : List Part) → before ps no_parts ≡ parts_of ps
before-none [] = refl
before-none (p ∷ ps) = ap (part p.size (pane_data p.pane)) (before-none ps)

-- the parts read so far, and the rest
abbrev pub after : List Part → Result (PartsData × CountsData) PanesRefusal → Result (PartsData × CountsData) PanesRefusal
after front rest = rest >>= λ r. Ok (before front r.0, r.1)

after-one : (front : List Part) (p : Part) (rest : Result (PartsData × CountsData) PanesRefusal) →
    after front (rest >>= λ r. Ok (part p.size (pane_data p.pane) r.0, r.1)) ≡ after (front ++ p ∷ []) rest
after-one front p (Ok r) = ap (λ (ps : PartsData). Ok (ps, r.1)) (before-one front p r.0)
after-one front p (Err e) = refl

pub parts_more : (pane_of : JsonCommand PaneData) (number : ℕ) (at next : CountsData) (front : List Part) (i : ℕ) (vs : List Value) (v : Value) (p : Part)
    → i < length vs → v ≡ get_or vs i v → part_in pane_of number at (view v) ≡ Ok ((p.size, pane_data p.pane), next)
    → after front (parts_in pane_of number at (items_view (drop i vs)))
    ≡ after (front ++ p ∷ []) (parts_in pane_of number next (items_view (drop (i + 1) vs)))
unfolding parts_in
parts_more pane_of number at next front i vs v p lt is h =
    ap (λ ds. after front (parts_in pane_of number at ds)) (items_view-drop vs i v lt is)
    ∙ rw h (after-one front p (parts_in pane_of number next (items_view (drop (i + 1) vs))))

pub parts_err : (pane_of : JsonCommand PaneData) (refusal : Option PanesRefusal) (number : ℕ) (at : CountsData) (front : List Part) (i : ℕ) (vs : List Value) (v : Value)
    (total : Result (PartsData × CountsData) PanesRefusal) → i < length vs → v ≡ get_or vs i v → Rejects refusal (part_in pane_of number at (view v))
    → after front (parts_in pane_of number at (items_view (drop i vs))) ≡ total → Rejects refusal total
unfolding parts_in
parts_err pane_of None number at front i vs v total lt is h so_far = tt
parts_err pane_of (Some refusal) number at front i vs v total lt is h so_far =
    let here : after front (parts_in pane_of number at (items_view (drop i vs))) ≡ Err refusal =
    ap (λ ds. after front (parts_in pane_of number at ds)) (items_view-drop vs i v lt is) ∙ rw h refl in
    sym so_far ∙ here

pub parts_end : (pane_of : JsonCommand PaneData) (number : ℕ) (at : CountsData) (front : List Part) (i : ℕ) (vs : List Value) → length vs ≤ i
    → after front (parts_in pane_of number at (items_view (drop i vs))) ≡ Ok (parts_of front, at)
unfolding parts_in
parts_end pane_of number at front i vs le = rw (drop_all i vs le) (ap (λ (ps : PartsData). Ok (ps, at)) (before-none front))
