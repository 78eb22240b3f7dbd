-- The facts that make a window.
use Rattle.std.proofs.Common.{◌≡◌, ℕ, ◌+◌, ◌-◌, ◌<◌, ◌≤◌, min, max, List, length, refl, arith, Option}
use Rattle.tui_layout.specs.Sums.{total}
use Rattle.tui_layout.specs.Window.{FitsAround, IsNearest, IsPadding, IsWindow, IsFirstForSelected, ShowsSelected, end_around}
use Rattle.tui_layout.specs.BinarySearch.{IsLowest}
use Rattle.tui_layout.proofs.Totals.{total-one, total-turned, total_wider}

-- a later start shows the item too
pub shows_selected_later : (xs : List ℕ) (height s p offset later : ℕ) → s < length xs → ShowsSelected xs height s p offset → offset ≤ later → later ≤ s - p
    → ShowsSelected xs height s p later
shows_selected_later xs height s p offset later h shows_selected le before = record {
  before = before;
  fits = omega (arith, shows_selected.fits, total_wider xs later (end_around xs s p) offset (end_around xs s p) le (omega arith) (omega arith));
}

-- the lowest offset that shows the item, and the last one, decide the nearest
pub nearest_is : (xs : List ℕ) (height s p lowest old first : ℕ) → s < length xs → FitsAround xs height s p → IsLowest xs height s p lowest
    → first ≡ max lowest (min old (s - p)) → IsNearest xs height s p old first
nearest_is xs height s p lowest old first h fits low e = record {
  shows_selected = shows_selected_later xs height s p lowest first h low.shows_selected (omega arith) (omega (arith, low.shows_selected.before));
  least = λ other others. omega (arith, low.least other others, others.before, low.shows_selected.before, e);
}

pub same_padding : (xs : List ℕ) (height s requested p q : ℕ) → IsPadding xs height s requested p → IsPadding xs height s requested q → p ≡ q
same_padding xs height s requested p q a b = omega (arith, a.greatest q b.within b.most b.fits, b.greatest p a.within a.most a.fits)

-- without items the window is empty
pub none_is_window : (xs : List ℕ) (height offset : ℕ) (selected : Option ℕ) (requested : ℕ) → length xs ≡ 0
    → IsWindow xs height offset selected requested (record { first = 0; end = 0 })
none_is_window xs height offset selected requested e = record {
  begins = record { empty = λ _. refl; placed = λ h. absurd (omega arith) };
  ends = record { within = omega arith; fits = omega (arith, total-turned xs 0 0 (omega arith)); greatest = λ m mn mf. omega arith };
}

pub tall_reached : (xs : List ℕ) (height old s requested : ℕ) → s < length xs → height < total xs s (s + 1) → IsFirstForSelected xs height old s requested s
tall_reached xs height old s requested h tall = record { tall = λ _. refl; shown = λ le. absurd (omega (arith, total-one xs s h)) }

pub shown_reached : (xs : List ℕ) (height old s requested p first : ℕ) → s < length xs → total xs s (s + 1) ≤ height → IsPadding xs height s requested p
    → IsNearest xs height s p old first → IsFirstForSelected xs height old s requested first
shown_reached xs height old s requested p first h le padding near = record {
  tall = λ lt. absurd (omega (arith, total-one xs s h));
  shown = λ _. (p, padding, near);
}
