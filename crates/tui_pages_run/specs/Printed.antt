-- The output for a report.
use Rattle.std.specs.Prelude.{◌≡◌, ℕ, zero, suc, ◌+◌, ◌<◌, true, false, Some, List, [], ◌++◌, length, map, flat_map, codes, decimal}
use Rattle.std.specs.List.{range_with_len}
use Rattle.tui_cells.specs.Buffer.{Screen, cell_at}
use Rattle.tui_cells.specs.Cell.{Look, blank}
use Rattle.tui_cells.specs.Layers.{Layer, layers_at}
use Rattle.tui_cells.specs.Rect.{covers}
use Rattle.tui_cells.specs.declared.rect.Rect.{Rect}
use Rattle.tui_rows.specs.RowLine.{row_line}
use Rattle.tui_pages_lib.specs.Report.{ReportData}
use Rattle.tui_pages_lib.specs.Strokes.{body_area, head_layers, page_area, page_layers}

-- the cells of an area at the origin, row by row: each is a blank cell after some strokes
abbrev pub rows_under : List Layer → Rect → List (List Look)
rows_under layers area =
    map (λ y. map (λ x. layers_at layers x y blank) (range_with_len 0 area.width)) (range_with_len 0 area.height)

-- the rows of a page
unfoldable pub page_rows : ReportData → ℕ → List (List Look)
page_rows r at = rows_under (page_layers r at (page_area r)) (page_area r)

-- the buffer shows the title and the names of a page; they don't reach into the rows below theirs
pub record ShowsHead (r : ReportData) (s : Screen) : Type 0 where
  pub area : s.area ≡ page_area r
  pub above : (x y : ℕ) → covers (page_area r) x y ≡ true → covers (body_area r) x y ≡ false →
      cell_at s x y ≡ Some (layers_at (head_layers r (page_area r)) x y blank)
  pub below : (x y : ℕ) → covers (body_area r) x y ≡ true → layers_at (head_layers r (page_area r)) x y blank ≡ blank

-- a page, counted from 0: a line with its number, from 1, and the number of pages, and then its rows
unfoldable pub page_text : ReportData → ℕ → List ℕ
page_text r at =
    codes "p " ++ (decimal (at + 1) ++ (codes " " ++ (decimal (length r.pages) ++ (codes "\n" ++ flat_map row_line (page_rows r at)))))

-- the first pages
unfoldable pub first_pages : ReportData → ℕ → List ℕ
first_pages r zero = []
first_pages r (suc count) = first_pages r count ++ page_text r count

-- all pages
abbrev pub AreAllPages : ReportData → List ℕ → Type 0
AreAllPages r text = text ≡ first_pages r (length r.pages)

-- some of the first pages, each of them complete, but not all
abbrev pub AreFewerPages : ReportData → List ℕ → Type 0
AreFewerPages r text = (count : ℕ) × (count < length r.pages) × (text ≡ first_pages r count)

-- the line with the number of pages
unfoldable pub count_line : ReportData → List ℕ
count_line r = codes "pages " ++ (decimal (length r.pages) ++ codes "\n")
