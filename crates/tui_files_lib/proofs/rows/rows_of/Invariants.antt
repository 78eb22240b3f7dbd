use Rattle.std.proofs.Common.{◌≡◌, All, map, option_map, Some, slice_get}
use Rattle.std.specs.List.{filter, range_with_len}
use Rattle.tui_files_lib.specs.Naming.{label_of}
use Rattle.tui_files_lib.specs.Rows.{is_wanted_at, row_label, row_place}
use Rattle.tui_files_lib.proofs.rows.rows_of.Given as goal

abbrev pub invariant-loop-place : goal.invariant-loop-place
invariant-loop-place l = record {
  places : map row_place l.rows.items ≡ filter (is_wanted_at l.name_filter.hidden l.name_filter.filter_text.now l.names) (range_with_len 0 l.place);
  labels : All (λ row. option_map label_of (slice_get l.names row.place) ≡ Some (row_label row)) l.rows.items;
}
