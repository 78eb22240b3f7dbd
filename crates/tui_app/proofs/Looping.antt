-- The screens of an app over reads.
use Rattle.std.proofs.Common.{◌≡◌, ℕ, ◌+◌, ◌<◌, ◌≤◌, List, [], ◌∷◌, ◌++◌, length, map, take, drop, get_or, suc, Some, None, Result, Ok, Err, IfOk, Bor, refl, sym, ap, subst, ◌∙◌}
use Rattle.std.proofs.Math.Seq.{drop-cons}
use Rattle.std.proofs.lemmas.List.{append-nil, map-append, take-append-drop, take_all, take_more}
use Rattle.tui_app.specs.Behaviour.{Behaviour}
use Rattle.tui_app.specs.EventLoop.{IsFirstState, LoopState}
use Rattle.tui_app.specs.Over.{DrawsOver, IteratesOver, RunsOver, draws_first, draws_next}
use Rattle.tui_cells.specs.Buffer.{Screen}
use Rattle.tui_cells.specs.declared.rect.Rect.{Rect}

abbrev pub bytes_of : Bor (List ℕ) → List ℕ
bytes_of r = r.now

pub drawn_first : {A : Type 0} (b : Behaviour A) (begin : A) (area : Rect) (state : LoopState A) (none : List Screen) → none ≡ [] → IsFirstState b begin area state →
    DrawsOver b begin area [] state (none ++ state.screen ∷ [])
drawn_first b begin area state none e first = rw e (draws_first state first)

pub drawn_next : {A : Type 0} (b : Behaviour A) (begin : A) (area : Rect) (reads : List (Bor (List ℕ))) (i : ℕ) (d : Bor (List ℕ)) (old new : LoopState A)
    (screens next : List Screen) (screen : Screen) → i < length reads → DrawsOver b begin area (map bytes_of (take i reads)) old (screens ++ old.screen ∷ []) →
    IteratesOver b old (get_or reads i d).now new (Some screen) → next ≡ screens ++ screen ∷ [] →
    DrawsOver b begin area (map bytes_of (take (i + 1) reads)) new (next ++ new.screen ∷ [])
drawn_next b begin area reads i d old new screens next screen lt draws event_loop e =
    let all : next ≡ screens ++ old.screen ∷ [] = e ∙ ap (λ (s : Screen). screens ++ s ∷ []) event_loop.2 in
    let more : map bytes_of (take (i + 1) reads) ≡ map bytes_of (take i reads) ++ (get_or reads i d).now ∷ [] =
    ap (map bytes_of) (take_more reads i d lt) ∙ map-append bytes_of (take i reads) (get_or reads i d ∷ []) in
    rw (all, more) (draws_next (map bytes_of (take i reads)) (get_or reads i d).now event_loop.0 old new (screens ++ old.screen ∷ []) draws event_loop.1)

-- the last screen is appended
with_all : {A X E : Type 0} (items : X → List Screen) (result : Result X E) (b : Behaviour A) (begin : A) (area : Rect) (reads : List (List ℕ)) (screens : List Screen) (last : A) →
    RunsOver b begin area reads screens last → IfOk result (λ (x : X). items x ≡ screens) → IfOk result (λ (x : X). RunsOver b begin area reads (items x) last)
with_all items (Ok x) b begin area reads screens last runs e = subst (λ (l : List Screen). RunsOver b begin area reads l last) (sym e) runs
with_all items (Err x) b begin area reads screens last runs e = tt

-- a read ends the session
pub over_at : {A X E : Type 0} (items : X → List Screen) (result : Result X E) (b : Behaviour A) (begin : A) (area : Rect) (reads : List (Bor (List ℕ))) (i : ℕ) (d : Bor (List ℕ))
    (old new : LoopState A) (screens : List Screen) → i < length reads → DrawsOver b begin area (map bytes_of (take i reads)) old (screens ++ old.screen ∷ []) →
    IteratesOver b old (get_or reads i d).now new None → IfOk result (λ (x : X). items x ≡ screens ++ new.screen ∷ []) →
    IfOk result (λ (x : X). RunsOver b begin area (map bytes_of reads) (items x) new.app)
over_at items result b begin area reads i d old new screens lt draws event_loop e =
    let rest = map bytes_of (drop (suc i) reads) in
    let split : reads ≡ take i reads ++ get_or reads i d ∷ drop (suc i) reads =
    sym (take-append-drop i reads) ∙ ap (λ (l : List (Bor (List ℕ))). take i reads ++ l) (drop-cons reads i d lt) in
    with_all items result b begin area (map bytes_of reads) (screens ++ new.screen ∷ []) new.app
    (record {
      taken = map bytes_of (take i reads);
      left = (get_or reads i d).now ∷ rest;
      reads_are = ap (map bytes_of) split ∙ map-append bytes_of (take i reads) (get_or reads i d ∷ drop (suc i) reads);
      state = old;
      draws = rw event_loop.1 draws;
      over = event_loop.0;
    })
    e

-- no read is left
pub over_all : {A X E : Type 0} (items : X → List Screen) (result : Result X E) (b : Behaviour A) (begin : A) (area : Rect) (reads : List (Bor (List ℕ))) (i : ℕ)
    (state : LoopState A) (screens : List Screen) → length reads ≤ i → DrawsOver b begin area (map bytes_of (take i reads)) state (screens ++ state.screen ∷ []) →
    IfOk result (λ (x : X). items x ≡ screens ++ state.screen ∷ []) →
    IfOk result (λ (x : X). RunsOver b begin area (map bytes_of reads) (items x) state.app)
over_all items result b begin area reads i state screens le draws e =
    with_all items result b begin area (map bytes_of reads) (screens ++ state.screen ∷ []) state.app
    (record {
      taken = map bytes_of reads;
      left = [];
      reads_are = sym (append-nil (map bytes_of reads));
      state = state;
      draws = rw (take_all i reads le) at draws;
      over = refl;
    })
    e
