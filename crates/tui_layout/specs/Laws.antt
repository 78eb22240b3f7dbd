-- Laws of windows.
use Rattle.std.specs.Prelude.{ℕ, ◌≡◌, ◌-◌, ◌<◌, ◌≤◌, min, List, length, slice_index, Option, Some}
use Rattle.tui_layout.specs.Sums.{total}
use Rattle.tui_layout.specs.Window.{IsWindow, cut_selection}
use Rattle.tui_layout.specs.Found.{window_of}
use Rattle.tui_layout.specs.declared.window.Window.{Window}

-- there is exactly one window
abbrev pub WindowIsUnique : Type 0
WindowIsUnique =
    (heights : List ℕ) (height offset : ℕ) (selected : Option ℕ) (requested : ℕ) →
    IsWindow heights height offset selected requested (window_of heights height offset selected requested) ×
    ((w : Window) → IsWindow heights height offset selected requested w → w ≡ window_of heights height offset selected requested)

-- a selected item that fits is in the window, and all items in the window fit
abbrev pub SelectedIsShown : Type 0
SelectedIsShown =
    (heights : List ℕ) (height offset s requested : ℕ) (w : Window) →
    IsWindow heights height offset (Some s) requested w → 0 < length heights →
    let place = min s (length heights - 1) in
    slice_index heights place ≤ height → (w.first ≤ place) × (place < w.end) × (w.end ≤ length heights) × (total heights w.first w.end ≤ height)

-- asking again with the window's first item and the selection that it leaves gives the same window
abbrev pub WindowIsStable : Type 0
WindowIsStable =
    (heights : List ℕ) (height offset : ℕ) (selected : Option ℕ) (requested : ℕ) (w again : Window) →
    IsWindow heights height offset selected requested w →
    IsWindow heights height w.first (cut_selection heights selected) requested again →
    again ≡ w
