-- The window as a function.
use Rattle.std.specs.Prelude.{ℕ, zero, suc, ◌-◌, ◌==◌, min, max, nat_le, nat_lt, List, length, slice_index, Option, Some, None, if◌then◌else◌}
use Rattle.tui_layout.specs.Sums.{total}
use Rattle.tui_layout.specs.Window.{end_around}
use Rattle.tui_layout.specs.declared.window.Window.{Window}

-- the greatest number up to n at which a sum is at most the height, 0 if there is none
unfoldable pub greatest : (ℕ → ℕ) → ℕ → ℕ → ℕ
greatest g height zero = 0
greatest g height (suc n) = if nat_le (g (suc n)) height then suc n else greatest g height n

-- the index up to which the items from the first one on fit
abbrev pub end_of : List ℕ → ℕ → ℕ → ℕ
end_of heights height first = greatest (λ m. total heights first m) height (length heights)

-- how many items on each side of a selected one fit with it, up to the requested number
abbrev pub padding_of : List ℕ → ℕ → ℕ → ℕ → ℕ
padding_of heights height s requested = greatest (λ p. total heights (s - p) (end_around heights s p)) height (min requested (length heights))

-- the lowest offset that shows the selected item with its padding
abbrev pub lowest_of : List ℕ → ℕ → ℕ → ℕ → ℕ
lowest_of heights height s p = s - p - greatest (λ k. total heights (s - p - k) (end_around heights s p)) height (s - p)

-- among the offsets that show the selected item with its padding, the nearest to the old one
abbrev pub nearest_of : List ℕ → ℕ → ℕ → ℕ → ℕ → ℕ
nearest_of heights height s p old = max (lowest_of heights height s p) (min old (s - p))

-- the first item: the old one without a selection, and the selected one if it is taller than the height
abbrev pub first_from : List ℕ → ℕ → ℕ → Option ℕ → ℕ → ℕ
first_from heights height old None requested = old
first_from heights height old (Some s) requested =
    let place = min s (length heights - 1) in
    if nat_lt height (slice_index heights place) then place else nearest_of heights height place (padding_of heights height place requested) old

-- likewise if there may be no items; an offset past the end counts as the last item
abbrev pub first_of : List ℕ → ℕ → ℕ → Option ℕ → ℕ → ℕ
first_of heights height offset selected requested =
    if length heights == 0 then 0 else first_from heights height (min offset (length heights - 1)) selected requested

-- the visible items: the first one, and the index after the last
unfoldable pub window_of : List ℕ → ℕ → ℕ → Option ℕ → ℕ → Window
window_of heights height offset selected requested =
    let first = first_of heights height offset selected requested in record { first = first; end = end_of heights height first }
