-- There are no two windows for the same heights and numbers.
use Rattle.std.proofs.Common.{◌≡◌, ℕ, ◌-◌, ◌<◌, ◌≤◌, min, List, length, get_or, subst, inl, inr, arith, Option, Some, None}
use Rattle.std.proofs.lemmas.Bool.{cases_lt}
use Rattle.tui_layout.specs.Window.{IsEnd, IsFirst, IsFirstFrom, IsNearest, IsWindow, IsFirstForSelected}
use Rattle.tui_layout.specs.declared.window.Window.{Window}
use Rattle.tui_layout.proofs.Windows.{same_padding, shows_selected_later}

pub same_end : (xs : List ℕ) (height first e f : ℕ) → IsEnd xs height first e → IsEnd xs height first f → e ≡ f
same_end xs height first e f a b = omega (arith, a.greatest f b.within b.fits, b.greatest e a.within a.fits)

not_later : (xs : List ℕ) (height s p old a b : ℕ) → s < length xs → IsNearest xs height s p old a → IsNearest xs height s p old b → a < b → ⊥
not_later xs height s p old a b h x y lt =
    let e = x.least b y.shows_selected in let f = y.least a x.shows_selected in
    let up : a ≤ old = omega (arith, e, f) in let down : old ≤ s - p = omega (arith, e, f, y.shows_selected.before) in
    omega (arith, e, f, x.least old (shows_selected_later xs height s p a old h x.shows_selected up down))

same_nearest : (xs : List ℕ) (height s p old a b : ℕ) → s < length xs → IsNearest xs height s p old a → IsNearest xs height s p old b → a ≡ b
same_nearest xs height s p old a b h x y = elim (cases_lt a b) [
  | inl lt ↦ absurd (not_later xs height s p old a b h x y lt)
  | inr ge ↦ elim (cases_lt b a) [
    | inl lt ↦ absurd (not_later xs height s p old b a h y x lt)
    | inr le ↦ omega arith
  ]
]

same_reached : (xs : List ℕ) (height old s requested a b : ℕ) → s < length xs
    → IsFirstForSelected xs height old s requested a → IsFirstForSelected xs height old s requested b → a ≡ b
same_reached xs height old s requested a b h x y = elim (cases_lt height (get_or xs s 0)) [
  | inl lt ↦ omega (arith, x.tall lt, y.tall lt)
  | inr le ↦
      let u = x.shown le in let v = y.shown le in
      let P : ℕ → Type 0 = λ n. IsNearest xs height s n old a in
      same_nearest xs height s v.0 old a b h (subst P (same_padding xs height s requested u.0 v.0 u.1 v.1) u.2) v.2
]

same_first_from : (xs : List ℕ) (height old : ℕ) (selected : Option ℕ) (requested a b : ℕ) → 0 < length xs
    → IsFirstFrom xs height old selected requested a → IsFirstFrom xs height old selected requested b → a ≡ b
same_first_from xs height old None requested a b h x y = omega (arith, x, y)
same_first_from xs height old (Some s) requested a b h x y = same_reached xs height old (min s (length xs - 1)) requested a b (omega arith) x y

pub same_first : (xs : List ℕ) (height offset : ℕ) (selected : Option ℕ) (requested a b : ℕ)
    → IsFirst xs height offset selected requested a → IsFirst xs height offset selected requested b → a ≡ b
same_first xs height offset selected requested a b x y = elim (cases_lt 0 (length xs)) [
  | inl lt ↦ same_first_from xs height (min offset (length xs - 1)) selected requested a b lt (x.placed lt) (y.placed lt)
  | inr le ↦ omega (arith, x.empty (omega arith), y.empty (omega arith))
]

made : ℕ → ℕ → Window
made first last = record { first = first; end = last }

same_made : (f e g d : ℕ) → f ≡ g → e ≡ d → made f e ≡ made g d
same_made f e g d x z = cc

pub same_ends : (a b : Window) → a.first ≡ b.first → a.end ≡ b.end → a ≡ b
unfolding made
same_ends a b e g = same_made a.first a.end b.first b.end e g

-- windows that begin at the same item are the same
pub same_from : (xs : List ℕ) (height : ℕ) (a b : Window) → a.first ≡ b.first → IsEnd xs height a.first a.end → IsEnd xs height b.first b.end → a ≡ b
same_from xs height a b e x y =
    let P : ℕ → Type 0 = λ k. IsEnd xs height k a.end in
    same_ends a b e (same_end xs height b.first a.end b.end (subst P e x) y)

pub same_window : (xs : List ℕ) (height offset : ℕ) (selected : Option ℕ) (requested : ℕ) (a b : Window)
    → IsWindow xs height offset selected requested a → IsWindow xs height offset selected requested b → a ≡ b
same_window xs height offset selected requested a b x y =
    same_from xs height a b (same_first xs height offset selected requested a.first b.first x.begins y.begins) x.ends y.ends
