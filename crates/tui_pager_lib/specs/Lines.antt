-- Where the lines of the selected body start.
use Rattle.std.specs.Prelude.{ℕ, ◌≡◌, ◌-◌, ◌/◌, ◌<◌, true, List, [], length, Option, None, Some, slice_index}
use Rattle.tui_line_places.specs.AfterLine.{AreLineOffsets, BeginsLine}
use Rattle.tui_pager_lib.specs.Entry.{EntryData}
use Rattle.tui_pager_lib.specs.Screen.{body_of}

-- the columns inside the borders of the body
abbrev pub inner_width : ℕ → ℕ
inner_width width = width - width / 3 - 2

-- an offset for each line of the selected body, or no offsets if no entry is selected
abbrev pub HaveLineStarts : List EntryData → ℕ → Option ℕ → List ℕ → Type 0
HaveLineStarts entries width None line_starts = line_starts ≡ []
HaveLineStarts entries width (Some place) line_starts = AreLineOffsets (inner_width width) true (body_of entries (Some place)) line_starts

-- the body has its lines from line k on, from each of these offsets on
abbrev pub AreWithin : ℕ → List ℕ → List ℕ → Type 0
AreWithin width body line_starts = (k : ℕ) → k < length line_starts → BeginsLine (inner_width width) true body k (slice_index line_starts k)
