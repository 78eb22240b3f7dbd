-- Windows with a selection, and windows that are asked for a second time.
use Rattle.std.proofs.Common.{◌≡◌, ℕ, ◌-◌, ◌<◌, ◌≤◌, min, List, length, get_or, refl, sym, ap, subst, inl, inr, arith, Option, Some, None}
use Rattle.std.proofs.lemmas.Bool.{cases_lt}
use Rattle.tui_layout.specs.Window.{IsEnd, IsFirst, IsFirstFrom, IsNearest, IsWindow, IsFirstForSelected, ShowsSelected, cut_selection, end_around}
use Rattle.tui_layout.specs.Found.{window_of}
use Rattle.tui_layout.specs.Laws.{SelectedIsShown, WindowIsStable}
use Rattle.tui_layout.specs.declared.window.Window.{Window}
use Rattle.tui_layout.proofs.Totals.{total-turned}
use Rattle.tui_layout.proofs.Windows.{same_padding}
use Rattle.tui_layout.proofs.UniqueWindow.{same_from}
use Rattle.tui_layout.proofs.Found.{window_is}

-- the items around the selected one end within the window
around_end : (xs : List ℕ) (height s p old first last : ℕ) → IsNearest xs height s p old first → IsEnd xs height first last → end_around xs s p ≤ last
around_end xs height s p old first last x e = e.greatest (end_around xs s p) (omega arith) x.shows_selected.fits

pub selected_is_shown : SelectedIsShown
selected_is_shown xs height offset s requested w x h fits =
    let place = min s (length xs - 1) in
    let u = (x.begins.placed h).shown fits in
    let near = u.2 in (
      omega (arith, near.shows_selected.before),
      omega (arith, around_end xs height place u.0 (min offset (length xs - 1)) w.first w.end near x.ends),
      x.ends.within,
      x.ends.fits,
    )

first_within : (xs : List ℕ) (height old s requested first : ℕ) → s < length xs → IsFirstForSelected xs height old s requested first → first < length xs
first_within xs height old s requested first h x = elim (cases_lt height (get_or xs s 0)) [
  | inl lt ↦ omega (arith, x.tall lt)
  | inr le ↦ let u = x.shown le in omega (arith, u.2.shows_selected.before)
]

first_from_within : (xs : List ℕ) (height old : ℕ) (selected : Option ℕ) (requested first : ℕ) → 0 < length xs → old < length xs
    → IsFirstFrom xs height old selected requested first → first < length xs
first_from_within xs height old None requested first h o x = omega (arith, x)
first_from_within xs height old (Some s) requested first h o x = first_within xs height old (min s (length xs - 1)) requested first (omega arith) x

-- the first item is one of the list
pub begins_within : (xs : List ℕ) (height offset : ℕ) (selected : Option ℕ) (requested : ℕ) (w : Window)
    → IsWindow xs height offset selected requested w → 0 < length xs → w.first < length xs
begins_within xs height offset selected requested w x h =
    first_from_within xs height (min offset (length xs - 1)) selected requested w.first h (omega arith) (x.begins.placed h)

-- a window is a range of the list
pub ends_in_order : (xs : List ℕ) (height offset : ℕ) (selected : Option ℕ) (requested : ℕ) (w : Window)
    → IsWindow xs height offset selected requested w → (w.first ≤ w.end) × (w.end ≤ length xs)
ends_in_order xs height offset selected requested w x = (
  elim (cases_lt 0 (length xs)) [
    | inl lt ↦
        let within = begins_within xs height offset selected requested w x lt in
        x.ends.greatest w.first (omega arith) (omega (arith, total-turned xs w.first w.first (omega arith)))
    | inr le ↦ omega (arith, x.begins.empty (omega arith))
  ],
  x.ends.within,
)

again_reached : (xs : List ℕ) (height old older s requested first again : ℕ) → s < length xs → older ≡ first
    → IsFirstForSelected xs height old s requested first → IsFirstForSelected xs height older s requested again → again ≡ first
again_reached xs height old older s requested first again h o x y = elim (cases_lt height (get_or xs s 0)) [
  | inl lt ↦ omega (arith, x.tall lt, y.tall lt)
  | inr le ↦
      let u = x.shown le in let v = y.shown le in
      let e : u.0 ≡ v.0 = same_padding xs height s requested u.0 v.0 u.1 v.1 in
      let P : ℕ → Type 0 = λ k. ShowsSelected xs height s k first in
      omega (arith, o, v.2.least first (subst P e u.2.shows_selected))
]

again_first : (xs : List ℕ) (height old : ℕ) (selected : Option ℕ) (requested first again : ℕ) → 0 < length xs → old < length xs
    → IsFirstFrom xs height old selected requested first → IsFirstFrom xs height (min first (length xs - 1)) (cut_selection xs selected) requested again → again ≡ first
again_first xs height old None requested first again h o x y = omega (arith, x, y)
again_first xs height old (Some s) requested first again h o x y =
    let place = min s (length xs - 1) in
    let lt : place < length xs = omega arith in
    let same : min place (length xs - 1) ≡ place = omega arith in
    let P : ℕ → Type 0 = λ k. IsFirstForSelected xs height (min first (length xs - 1)) k requested again in
    let within = first_within xs height old place requested first lt x in
    again_reached xs height old (min first (length xs - 1)) place requested first again lt (omega (arith, within)) x (subst P same y)

pub window_is_stable : WindowIsStable
window_is_stable xs height offset selected requested w again x y =
    let e : again.first ≡ w.first = elim (cases_lt 0 (length xs)) [
      | inl lt ↦
          let old = min offset (length xs - 1) in
          again_first xs height old selected requested w.first again.first lt (omega arith) (x.begins.placed lt) (y.begins.placed lt)
      | inr le ↦ omega (arith, x.begins.empty (omega arith), y.begins.empty (omega arith))
    ] in
    same_from xs height again w e y.ends x.ends

-- a second drawing shows the same items
pub window_stays : (xs : List ℕ) (height offset : ℕ) (selected : Option ℕ) (requested : ℕ)
    → window_of xs height (window_of xs height offset selected requested).first (cut_selection xs selected) requested ≡ window_of xs height offset selected requested
window_stays xs height offset selected requested =
    let w = window_of xs height offset selected requested in
    let again = window_of xs height (window_of xs height offset selected requested).first (cut_selection xs selected) requested in
    window_is_stable xs height offset selected requested w again (window_is xs height offset selected requested) (window_is xs height w.first (cut_selection xs selected) requested)

pub cut_place : (s n : ℕ) → min (min s n) n ≡ min s n
cut_place s n = omega arith

pub cut_again : (xs : List ℕ) (selected : Option ℕ) → cut_selection xs (cut_selection xs selected) ≡ cut_selection xs selected
cut_again xs None = refl
cut_again xs (Some s) = ap Some (cut_place s (length xs - 1))

cut_first : (xs : List ℕ) (height old : ℕ) (selected : Option ℕ) (requested first : ℕ)
    → IsFirstFrom xs height old selected requested first → IsFirstFrom xs height old (cut_selection xs selected) requested first
cut_first xs height old None requested first x = x
cut_first xs height old (Some s) requested first x =
    let P : ℕ → Type 0 = λ k. IsFirstForSelected xs height old k requested first in subst P (sym (cut_place s (length xs - 1))) x

-- the first item is the same for the selection that is left
pub first_of_cut : (xs : List ℕ) (height offset : ℕ) (selected : Option ℕ) (requested first : ℕ)
    → IsFirst xs height offset selected requested first → IsFirst xs height offset (cut_selection xs selected) requested first
first_of_cut xs height offset selected requested first x = record {
  empty = x.empty;
  placed = λ h. cut_first xs height (min offset (length xs - 1)) selected requested first (x.placed h);
}
