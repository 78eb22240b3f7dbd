-- Which names a list has, and what their rows show.
use Rattle.std.specs.Prelude.{
  ◌≡◌,
  ◌==◌,
  ◌&&◌,
  ◌||◌,
  ℕ,
  Bool,
  false,
  not,
  List,
  [],
  ◌∷◌,
  All,
  length,
  map,
  nat_eq,
  Option,
  None,
  Some,
  option_map,
  slice_get,
  slice_index,
  string_bytes,
  unwrap_or,
}
use Rattle.std.specs.Cmp.Lexicographic.{slice_cmp}
use Rattle.std.specs.List.Sorted.{IsPermutation, IsSorted}
use Rattle.std.specs.Ordering.{nat_cmp, ordering_then}
use Rattle.std.specs.List.{filter, position, range_with_len, starts_with}
use Rattle.std.specs.Str.{bytes_eq}
use Rattle.std.specs.declared.cmp.Ordering.{Ordering}
use Rattle.tui_files_lib.specs.Naming.{label_of}
use Rattle.tui_files_lib.specs.declared.folders.EntryKind.{EntryKind}
use Rattle.tui_files_lib.specs.declared.folders.EntryKind.TheVariants.{Folder, File}
use Rattle.tui_files_lib.specs.declared.folders.Listing.{Listing}
use Rattle.tui_files_lib.specs.declared.folders.Name.{Name}
use Rattle.tui_files_lib.specs.declared.rows.NameRow.{NameRow}

-- folders come before files
abbrev pub kind_rank : EntryKind → ℕ
kind_rank Folder = 0
kind_rank File = 1

-- and names of one kind are ordered by their bytes
abbrev pub name_cmp : Name → Name → Ordering
name_cmp a b = ordering_then (nat_cmp (kind_rank a.kind) (kind_rank b.kind)) (slice_cmp nat_cmp (string_bytes a.text) (string_bytes b.text))

-- the same listing, sorted
pub record IsInOrder (given listing : Listing) : Type 0 where
  pub same : IsPermutation given.names.items listing.names.items
  pub sorted : IsSorted name_cmp listing.names.items
  pub omitted : listing.omitted ≡ given.omitted
  pub not_utf8 : listing.not_utf8 ≡ given.not_utf8

-- what a row shows
abbrev pub row_label : NameRow → List ℕ
row_label row = string_bytes row.label

-- the index of its name in the listing
abbrev pub row_place : NameRow → ℕ
row_place row = row.place

-- whether a text contains another one
abbrev pub contains_filter : List ℕ → List ℕ → Bool
contains_filter filter_text [] = starts_with nat_eq [] filter_text
contains_filter filter_text (b ∷ text) = starts_with nat_eq (b ∷ text) filter_text || contains_filter filter_text text

-- a hidden name begins with a dot
abbrev pub is_hidden : List ℕ → Bool
is_hidden text = slice_index text 0 == 46

-- which names are listed: those that contain the filter, and hidden ones only if these are shown
abbrev pub is_wanted : Bool → List ℕ → List ℕ → Bool
is_wanted hidden filter_text text = (hidden || not (is_hidden text)) && contains_filter filter_text text

-- the indices of these names in a listing
abbrev pub is_wanted_at : Bool → List ℕ → List Name → ℕ → Bool
is_wanted_at hidden filter_text names place =
    unwrap_or (option_map (λ name. is_wanted hidden filter_text (string_bytes name.text)) (slice_get names place)) false

abbrev pub wanted_places : Bool → List ℕ → List Name → List ℕ
wanted_places hidden filter_text names = filter (is_wanted_at hidden filter_text names) (range_with_len 0 (length names))

-- The rows are those of the names that pass the filter, each once and in order. Each row shows the name at its index.
pub record ListsNames (hidden : Bool) (filter_text : List ℕ) (names : List Name) (rows : List NameRow) : Type 0 where
  pub places : map row_place rows ≡ wanted_places hidden filter_text names
  pub labels : All (λ row. option_map label_of (slice_get names row.place) ≡ Some (row_label row)) rows

-- ---- what is selected when names are listed

-- the row of the name at an index, or the first row if there is none
abbrev pub row_at : List NameRow → ℕ → ℕ
row_at rows place = unwrap_or (position (λ row. row.place == place) rows) 0

-- the index of the name to be selected, or 0 if there is none
abbrev pub place_of : List Name → Option (List ℕ) → ℕ
place_of names None = 0
place_of names (Some text) = unwrap_or (position (λ name. bytes_eq (string_bytes name.text) text) names) 0
