-- The labels of a bar chart.
use Rattle.std.specs.Prelude.{ℕ, ◌-◌, ◌*◌, ◌+◌, min, false, List, ◌++◌, unwrap_or}
use Rattle.tui_cells.specs.declared.rect.Rect.{Rect}
use Rattle.tui_cells.specs.Cell.{set_style}
use Rattle.tui_cells.specs.Layers.{Layer, stroke}
use Rattle.tui_cells.specs.Rect.{covers, intersection_of, farthest_edge}
use Rattle.tui_frames.specs.Space.{past}
use Rattle.tui_text.specs.Line.{LineData}
use Rattle.tui_text.specs.Painting.{alignment_offset, cells_at, row_layers}
use Rattle.tui_text.specs.Width.{line_width}
use Rattle.tui_text.specs.declared.alignment.Alignment.{Alignment}
use Rattle.tui_text.specs.declared.alignment.Alignment.TheVariants.{Left}
use Rattle.tui_bars.specs.BarChart.{BarChartData}

-- the alignment of a label, `Left` if it has none
abbrev pub alignment_of : LineData → Alignment
alignment_of label = unwrap_or label.alignment Left

-- `width` columns of a row, placed by an alignment
abbrev pub aligned_in : Rect → Alignment → ℕ → Rect
aligned_in row alignment width = cells_at (past row.x (alignment_offset alignment row.width width)) row.y width

-- a label in a part of the clip: first the chart's label style, then the line
unfoldable pub titled_layers : BarChartData → Rect → Rect → LineData → List Layer
titled_layers c clip part label =
    stroke (covers (intersection_of clip part)) (set_style c.label_style) ++ row_layers (intersection_of clip part) (alignment_of label) label

-- the width of n bars side by side, in columns
abbrev pub columns_of : BarChartData → ℕ → ℕ
columns_of c n = min (n * (c.width + c.gap) - c.gap) farthest_edge

-- a group's label in a row, placed by its own alignment
abbrev pub group_title_layers : BarChartData → Rect → Rect → LineData → List Layer
group_title_layers c clip row label = titled_layers c clip (aligned_in row (alignment_of label) (min (line_width false label) farthest_edge)) label
