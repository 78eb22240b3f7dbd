-- Laws of pages.
use Rattle.std.specs.Prelude.{ℕ, ◌≡◌, ◌<◌, ◌≤◌, ◌^◌, true, List, length, All}
use Rattle.std.specs.List.{list_all}
use Rattle.tui_pages_lib.specs.Pages.{ArePages, KeepWhole}
use Rattle.tui_pages_lib.specs.Filling.{pages_of}
use Rattle.tui_pages_lib.specs.Strokes.{number_of}
use Rattle.tui_pages_lib.specs.declared.piece.Piece.{Piece}
use Rattle.tui_clusters.specs.Printable.{is_printable}

-- exactly one list of pages is valid for these heights and this room
abbrev pub PagesAreUnique : Type 0
PagesAreUnique =
    (heights : List ℕ) (room : ℕ) → 0 < room → All (λ height. 0 < height) heights →
    ArePages heights room (pages_of heights room) ×
    ((pages : List (List Piece)) → ArePages heights room pages → pages ≡ pages_of heights room)

-- if there are records and none is taller than a page, no pages that keep them whole are fewer
abbrev pub PagesAreFewest : Type 0
PagesAreFewest =
    (heights : List ℕ) (room : ℕ) (pages others : List (List Piece)) → 0 < length heights →
    All (λ height. 0 < height) heights → All (λ height. height ≤ room) heights →
    ArePages heights room pages → KeepWhole heights room others → length pages ≤ length others

-- in a page's number each byte has one column, so the number ends at the right edge
abbrev pub NumbersAreColumns : Type 0
NumbersAreColumns = (at count : ℕ) → at < count → count < 2 ^ 64 → list_all is_printable (number_of at count) ≡ true
