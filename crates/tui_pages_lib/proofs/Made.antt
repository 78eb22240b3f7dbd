-- A report of records whose heights were counted.
use Rattle.std.proofs.Common.{◌≡◌, ℕ, ◌-◌, ◌<◌, ◌≤◌, List, length, map, sym, ap, ◌∙◌, subst, arith}
use Rattle.std.specs.Prelude.{All}
use Rattle.std.proofs.lemmas.List.{length-map}
use Rattle.tui_layout.specs.declared.segment.Segment.{Segment}
use Rattle.tui_pages_lib.specs.Filling.{pages_of}
use Rattle.tui_pages_lib.specs.Heights.{IsFirstTooTall, heights_of, record_height}
use Rattle.tui_pages_lib.specs.Pages.{ArePages, KeepWhole}
use Rattle.tui_pages_lib.specs.Report.{ColumnData, IsReport, ReportData, cells_of, column_data, places_of, report_of}
use Rattle.tui_pages_lib.specs.declared.column.Column.{Column}
use Rattle.tui_pages_lib.specs.declared.piece.Piece.{Piece}
use Rattle.tui_pages_lib.specs.declared.records.Record.{Record}
use Rattle.tui_pages_lib.proofs.Measured.{IsLow, all_low, first_of, heights_some, not_cut}
use Rattle.tui_pages_lib.proofs.UniquePages.{pages_are_unique, pages_are_fewest}
use Rattle.tui_clusters.specs.Width.{saturated}

-- the heights as the code computes them
abbrev Counted : ℕ → List ColumnData → List (List (List ℕ)) → List ℕ → Type 0
Counted width columns records heights = heights ≡ map saturated (heights_of (places_of width columns) records)

pub counted_heights : (width : ℕ) (columns given : List Column) (places at : List Segment) (records have : List Record) (heights : List ℕ) →
    given ≡ columns → places ≡ places_of width (map column_data given) → at ≡ places → have ≡ records →
    heights ≡ map saturated (heights_of at (map cells_of have)) →
    Counted width (map column_data columns) (map cells_of records) heights
counted_heights width columns given places at records have heights g p a r e =
    e ∙ (ap (λ rs. map saturated (heights_of at (map cells_of rs))) r
    ∙ ap (λ ps. map saturated (heights_of ps (map cells_of records))) (a ∙ (p ∙ ap (λ cs. places_of width (map column_data cs)) g)))

-- a record is too tall
pub too_tall : (width : ℕ) (columns : List ColumnData) (records : List (List (List ℕ))) (heights tested : List ℕ) (found place : ℕ) →
    Counted width columns records heights → tested ≡ heights → IsFirstTooTall tested found → found ≡ place →
    IsFirstTooTall (heights_of (places_of width columns) records) place
too_tall width columns records heights tested found place h t first same =
    subst (IsFirstTooTall (heights_of (places_of width columns) records)) same
    (first_of (heights_of (places_of width columns) records) tested found (t ∙ h) first)

-- no record is too tall
pub record Measured (width : ℕ) (columns : List ColumnData) (records : List (List (List ℕ))) (used : List ℕ) : Type 0 where
  pub bounded : All IsLow (heights_of (places_of width columns) records)
  pub used_is : used ≡ heights_of (places_of width columns) records
  pub some : All (λ height. 0 < height) used

pub measured : (width : ℕ) (columns : List ColumnData) (records : List (List (List ℕ))) (heights tested used : List ℕ) →
    Counted width columns records heights → tested ≡ heights → used ≡ heights → All IsLow tested → Measured width columns records used
measured width columns records heights tested used h t u bounded =
    let all = heights_of (places_of width columns) records in
    let is : used ≡ all = u ∙ (sym t ∙ not_cut all tested (t ∙ h) bounded) in
    record {
      bounded = all_low all tested (t ∙ h) bounded;
      used_is = is;
      some = subst (All (λ height. 0 < height)) (sym is) (heights_some (places_of width columns) records);
    }

-- the pages of these heights
pub record Made (width height : ℕ) (columns : List ColumnData) (records : List (List (List ℕ))) (pages : List (List Piece)) : Type 0 where
  pub bounded : All IsLow (heights_of (places_of width columns) records)
  pub are : ArePages (heights_of (places_of width columns) records) (height - 3) pages
  pub is : pages ≡ pages_of (heights_of (places_of width columns) records) (height - 3)

pub made : (width height rows : ℕ) (columns : List ColumnData) (records : List (List (List ℕ))) (used : List ℕ) (pages : List (List Piece)) →
    4 ≤ height → rows ≡ height → Measured width columns records used → ArePages used (rows - 3) pages →
    Made width height columns records pages
made width height rows columns records used pages high same m are =
    let all = heights_of (places_of width columns) records in
    let here : ArePages all (height - 3) pages =
    subst (λ n. ArePages all (n - 3) pages) same (subst (λ hs. ArePages hs (rows - 3) pages) m.used_is are) in
    record {
      bounded = m.bounded;
      are = here;
      is = (pages_are_unique all (height - 3) (omega arith) (heights_some (places_of width columns) records)).1 pages here;
    }

pub made_kept : (width height : ℕ) (columns : List ColumnData) (records : List (List (List ℕ))) (places : List Segment) (pages : List (List Piece)) →
    0 < width → 4 ≤ height → places ≡ places_of width columns → Made width height columns records pages →
    IsReport places width height columns records pages
made_kept width height columns records places pages wide high p m = record {
  wide = wide;
  high = high;
  placed = p;
  bounded = subst (λ ps. All IsLow (heights_of ps records)) (sym p) m.bounded;
  are_pages = m.is ∙ ap (λ ps. pages_of (heights_of ps records) (height - 3)) (sym p);
}

pub made_is : (width height : ℕ) (title : List ℕ) (columns : List ColumnData) (records : List (List (List ℕ))) (pages : List (List Piece)) →
    Made width height columns records pages →
    (let r : ReportData = record { width = width; height = height; title = title; columns = columns; records = records; pages = pages } in r)
    ≡ report_of width height title columns records
made_is width height title columns records pages m =
    ap (λ ps. let r : ReportData = record { width = width; height = height; title = title; columns = columns; records = records; pages = ps } in r) m.is

pub made_fewest : (width height : ℕ) (columns : List ColumnData) (records : List (List (List ℕ))) (pages : List (List Piece)) →
    Made width height columns records pages → 0 < length records →
    All (λ lines. lines ≤ height - 3) (heights_of (places_of width columns) records) → (others : List (List Piece)) →
    KeepWhole (heights_of (places_of width columns) records) (height - 3) others → length pages ≤ length others
made_fewest width height columns records pages m some bounded others keep =
    let places = places_of width columns in
    pages_are_fewest (heights_of places records) (height - 3) pages others (omega (arith, length-map records (record_height places)))
    (heights_some places records) bounded m.are keep
