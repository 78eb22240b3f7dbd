-- The bars of a sparkline, one after another.
use Rattle.std.proofs.Common.{◌≡◌, ℕ, ◌+◌, ◌<◌, ◌≤◌, List, [], ◌∷◌, map, take, drop, length, get_or, refl, ◌∙◌, sym, ap, add-one, drop-cons, arith}
use Rattle.std.specs.Prelude.{min}
use Rattle.std.proofs.lemmas.List.{drop_all, get_or-map, get_or-take, length-map, length-take}
use Rattle.tui_cells.specs.declared.rect.Rect.{Rect}
use Rattle.tui_cells.specs.Buffer.{Screen}
use Rattle.tui_cells.specs.Layers.{Painted}
use Rattle.tui_cells.proofs.Painting.{Painted-none, Painted-then}
use Rattle.tui_bars.specs.Sparkline.{SparklineBarData, SparklineData, bar_layers, bars_layers}

-- one more bar
pub bar_more : {A : Type 0} (f : A → SparklineBarData) (xs : List A) (s : SparklineData) (area : Rect) (greatest i n : ℕ) (x d : A) (a b c : Screen) →
    i < n → i < length xs → x ≡ get_or xs i d → Painted (bar_layers s area greatest i (f x)) a b →
    Painted (bars_layers s area greatest (i + 1) (drop (i + 1) (take n (map f xs)))) b c → Painted (bars_layers s area greatest i (drop i (take n (map f xs)))) a c
unfolding bars_layers
bar_more f xs s area greatest i n x d a b c below lt here p q =
    let ys = map f xs in
    let inside : i < length (take n ys) = omega (arith, length-take n ys, length-map xs f) in
    let item : get_or (take n ys) i (f x) ≡ f x = get_or-take n ys i (f x) below ∙ (get_or-map f xs i d (f x) lt ∙ sym (ap f here)) in
    let whole : drop i (take n ys) ≡ f x ∷ drop (i + 1) (take n ys) = rw (add-one, drop-cons (take n ys) i (f x) inside, item) refl in
    rw whole (Painted-then p q)

pub bar_done : {A : Type 0} (f : A → SparklineBarData) (xs : List A) (s : SparklineData) (area : Rect) (greatest i n : ℕ) (a : Screen) →
    min (length xs) n ≤ i → Painted (bars_layers s area greatest i (drop i (take n (map f xs)))) a a
unfolding bars_layers
bar_done f xs s area greatest i n a le =
    let e : drop i (take n (map f xs)) ≡ [] = drop_all i (take n (map f xs)) (omega (arith, length-take n (map f xs), length-map xs f)) in rw e (Painted-none a)
