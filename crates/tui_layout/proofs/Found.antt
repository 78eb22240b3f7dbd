-- The function returns the window.
use Rattle.std.proofs.Common.{
  ◌≡◌,
  ℕ,
  zero,
  suc,
  ◌+◌,
  ◌-◌,
  ◌<◌,
  ◌≤◌,
  ◌==◌,
  min,
  nat_le,
  nat_lt,
  Bool,
  true,
  false,
  if◌then◌else◌,
  List,
  length,
  get_or,
  refl,
  subst,
  inl,
  inr,
  arith,
  Option,
  Some,
  None,
}
use Rattle.std.proofs.lemmas.Bool.{cases_lt}
use Rattle.std.proofs.lemmas.Bool.Decides.{nat_tests}
use Rattle.tui_layout.specs.Sums.{total}
use Rattle.tui_layout.specs.Window.{FitsAround, IsEnd, IsFirst, IsFirstFrom, IsPadding, IsWindow, IsFirstForSelected, end_around}
use Rattle.tui_layout.specs.BinarySearch.{IsLowest}
use Rattle.tui_layout.specs.Found.{end_of, first_from, first_of, greatest, lowest_of, nearest_of, padding_of, window_of}
use Rattle.tui_layout.specs.Laws.{WindowIsUnique}
use Rattle.tui_layout.specs.declared.window.Window.{Window}
use Rattle.tui_layout.proofs.Totals.{total-one, total-turned, total_wider}
use Rattle.tui_layout.proofs.Windows.{nearest_is, shown_reached, tall_reached}
use Rattle.tui_layout.proofs.UniqueWindow.{same_window}

record IsGreatest (g : ℕ → ℕ) (height n m : ℕ) : Type 0 where
  pub within : m ≤ n
  pub fits : g m ≤ height
  pub greatest : (q : ℕ) → q ≤ n → g q ≤ height → q ≤ m

greatest_next : (g : ℕ → ℕ) (height n m : ℕ) (b : Bool) → nat_le (g (suc n)) height ≡ b → IsGreatest g height n m →
    IsGreatest g height (suc n) (if b then suc n else m)
greatest_next g height n m true e x = record { within = omega arith; fits = grind (arith, nat_tests); greatest = λ q qn qf. qn }
greatest_next g height n m false e x = record {
  within = omega (arith, x.within);
  fits = x.fits;
  greatest = λ q qn qf. elim (cases_lt n q) [
    | inl high ↦
        let P : ℕ → Type 0 = λ k. g k ≤ height in
        let same : q ≡ suc n = omega arith in
        let past : height < g (suc n) = grind (arith, nat_tests) in
        absurd (omega (arith, subst P same qf, past))
    | inr low ↦ x.greatest q low qf
  ];
}

greatest_is : (g : ℕ → ℕ) (height n : ℕ) → g 0 ≤ height → IsGreatest g height n (greatest g height n)
unfolding greatest
greatest_is g height zero h = record { within = omega arith; fits = h; greatest = λ q qn qf. qn }
greatest_is g height (suc n) h = greatest_next g height n (greatest g height n) (nat_le (g (suc n)) height) refl (greatest_is g height n h)

end_is : (xs : List ℕ) (height first : ℕ) → IsEnd xs height first (end_of xs height first)
end_is xs height first =
    let u = greatest_is (λ m. total xs first m) height (length xs) (omega (arith, total-turned xs first 0 (omega arith))) in
    record { within = u.within; fits = u.fits; greatest = λ m mn mf. u.greatest m mn mf }

padding_is : (xs : List ℕ) (height s requested : ℕ) → s < length xs → total xs s (s + 1) ≤ height → IsPadding xs height s requested (padding_of xs height s requested)
padding_is xs height s requested h one =
    let base : total xs (s - 0) (end_around xs s 0) ≤ height =
    omega (arith, one, total_wider xs (s - 0) (end_around xs s 0) s (s + 1) (omega arith) (omega arith) (omega arith)) in
    let u = greatest_is (λ p. total xs (s - p) (end_around xs s p)) height (min requested (length xs)) base in
    record {
      within = omega (arith, u.within);
      most = omega (arith, u.within);
      fits = u.fits;
      greatest = λ q qa qn qf. u.greatest q (omega arith) qf;
    }

lowest_is : (xs : List ℕ) (height s p : ℕ) → FitsAround xs height s p → IsLowest xs height s p (lowest_of xs height s p)
lowest_is xs height s p f =
    let P : ℕ → Type 0 = λ o. total xs o (end_around xs s p) ≤ height in
    let none_back : s - p ≡ s - p - 0 = omega arith in
    let u = greatest_is (λ k. total xs (s - p - k) (end_around xs s p)) height (s - p) (subst P none_back f) in
    record {
      shows_selected = record { before = omega arith; fits = u.fits };
      least = λ o shows_selected.
          let e : o ≡ s - p - (s - p - o) = omega (arith, shows_selected.before) in
          omega (arith, shows_selected.before, u.greatest (s - p - o) (omega arith) (subst P e shows_selected.fits));
    }

reached_is : (xs : List ℕ) (height old s requested : ℕ) (b : Bool) → nat_lt height (get_or xs s 0) ≡ b → s < length xs →
    IsFirstForSelected xs height old s requested (if b then s else nearest_of xs height s (padding_of xs height s requested) old)
reached_is xs height old s requested true e h =
    let tall : height < get_or xs s 0 = grind (arith, nat_tests) in
    tall_reached xs height old s requested h (omega (arith, total-one xs s h, tall))
reached_is xs height old s requested false e h =
    let small : get_or xs s 0 ≤ height = grind (arith, nat_tests) in
    let one : total xs s (s + 1) ≤ height = omega (arith, total-one xs s h, small) in
    let p = padding_of xs height s requested in
    let padding = padding_is xs height s requested h one in
    shown_reached xs height old s requested p (nearest_of xs height s p old) h one padding
    (nearest_is xs height s p (lowest_of xs height s p) old (nearest_of xs height s p old) h padding.fits (lowest_is xs height s p padding.fits) refl)

first_from_is : (xs : List ℕ) (height old : ℕ) (selected : Option ℕ) (requested : ℕ) → 0 < length xs →
    IsFirstFrom xs height old selected requested (first_from xs height old selected requested)
first_from_is xs height old None requested h = refl
first_from_is xs height old (Some s) requested h =
    let place = min s (length xs - 1) in reached_is xs height old place requested (nat_lt height (get_or xs place 0)) refl (omega arith)

none_or_some : (xs : List ℕ) (height offset : ℕ) (selected : Option ℕ) (requested : ℕ) (b : Bool) → (length xs == 0) ≡ b →
    IsFirst xs height offset selected requested (if b then 0 else first_from xs height (min offset (length xs - 1)) selected requested)
none_or_some xs height offset selected requested true e =
    let none : length xs ≡ 0 = grind (arith, nat_tests) in record { empty = λ _. refl; placed = λ h. absurd (omega arith) }
none_or_some xs height offset selected requested false e =
    let some : 0 < length xs = grind (arith, nat_tests) in
    record { empty = λ n. absurd (omega arith); placed = λ h. first_from_is xs height (min offset (length xs - 1)) selected requested h }

pub window_is : (xs : List ℕ) (height offset : ℕ) (selected : Option ℕ) (requested : ℕ) →
    IsWindow xs height offset selected requested (window_of xs height offset selected requested)
unfolding window_of
window_is xs height offset selected requested = record {
  begins = none_or_some xs height offset selected requested (length xs == 0) refl;
  ends = end_is xs height (first_of xs height offset selected requested);
}

pub is_found : (xs : List ℕ) (height offset : ℕ) (selected : Option ℕ) (requested : ℕ) (w : Window) →
    IsWindow xs height offset selected requested w → w ≡ window_of xs height offset selected requested
is_found xs height offset selected requested w h =
    same_window xs height offset selected requested w (window_of xs height offset selected requested) h (window_is xs height offset selected requested)

pub window_is_unique : WindowIsUnique
window_is_unique xs height offset selected requested = (window_is xs height offset selected requested, λ w h. is_found xs height offset selected requested w h)
