-- Which cells of a row are sent.
use Rattle.std.specs.Prelude.{ℕ, ◌+◌, Bool, false, not, ◌&&◌, nat_eq, List, [], ◌∷◌, ◌++◌, Option, None, Some, if◌then◌else◌}
use Rattle.std.specs.List.{list_all}
use Rattle.std.specs.Cmp.Lexicographic.{pointwise}
use Rattle.tui_cells.specs.Cell.{Look}
use Rattle.tui_cells.specs.contracts.attributes.AttributesPartialEq as attributes
use Rattle.tui_text.specs.Visible.{PlacedCell}
use Rattle.tui_terminal_model.specs.declared.widths.KnownWidths.{KnownWidths}
use Rattle.tui_terminal_model.specs.Pens.{attributes_of}
use Rattle.tui_terminal_model.specs.Pieces.{shown_row, uncovered}
use Rattle.tui_terminal_model.specs.Symbols.{has_known_width}
use Rattle.tui_terminal_laws.specs.declared.wanted.Wanted.{Wanted}
use Rattle.tui_terminal_laws.specs.declared.wanted.Wanted.TheVariants.{Changed, UncertainWidth, KnownWidth}

-- whether two cells show the same
abbrev pub is_same : Look → Look → Bool
is_same a b = pointwise nat_eq a.symbol b.symbol && attributes.TheImpl.ghosts.eq (attributes_of a) (attributes_of b)

-- whether a cell shows what showed in its column before
unfoldable pub is_shown : Option Look → Look → Bool
is_shown None new = false
is_shown (Some old) new = is_same old new

-- which visible cells are sent: those that did not show so before, those with symbols of uncertain width, or those with
-- symbols of known width
abbrev pub is_wanted : KnownWidths → Wanted → Bool → List ℕ → Bool
is_wanted widths Changed shown symbol = not shown
is_wanted widths UncertainWidth shown symbol = not (has_known_width widths symbol)
is_wanted widths KnownWidth shown symbol = has_known_width widths symbol

-- a visible cell, if it is sent
abbrev pub sent_here : KnownWidths → Wanted → ℕ → Option Look → Look → List PlacedCell
sent_here widths w column old new = if is_wanted widths w (is_shown old new) new.symbol then record { column = column; cell = new } ∷ [] else []

-- the cells of a row that are sent, from what shows in each column of the old and the new row
unfoldable pub sent : KnownWidths → Wanted → ℕ → List (Option Look) → List (Option Look) → List PlacedCell
sent widths w column (o ∷ os) (Some n ∷ ns) = sent_here widths w column o n ++ sent widths w (column + 1) os ns
sent widths w column (o ∷ os) (None ∷ ns) = sent widths w (column + 1) os ns
sent widths w column [] news = []
sent widths w column (o ∷ os) [] = []

-- all visible cells: first those with symbols of uncertain width, then the others
abbrev pub in_full : KnownWidths → ℕ → List (Option Look) → List PlacedCell
in_full widths left row = sent widths UncertainWidth left row row ++ sent widths KnownWidth left row row

-- the cells that show now and did not show so before
abbrev pub changes : KnownWidths → ℕ → List (Option Look) → List (Option Look) → List PlacedCell
changes widths left old new = sent widths Changed left old new

-- whether all of them have symbols of known width
unfoldable pub is_calm : KnownWidths → ℕ → List (Option Look) → List (Option Look) → Bool
is_calm widths left old new = list_all (λ p. has_known_width widths p.cell.symbol) (changes widths left old new)

-- What is sent of a row that changes: only the changes if no symbol of uncertain width appears or disappears,
-- else the whole row.
abbrev pub row_sent : KnownWidths → ℕ → List (Option Look) → List (Option Look) → List PlacedCell
row_sent widths left old new =
    if is_calm widths left old new && is_calm widths left new old then changes widths left old new else in_full widths left new

-- what shows in a row
abbrev pub row_shown : KnownWidths → List Look → List (Option Look)
row_shown widths row = shown_row widths uncovered row
